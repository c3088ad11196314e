use Rattle.shard_marks.specs.Passes.{marks_of}
use Rattle.shard_marks.proofs.Founded.{founded_later}
use Rattle.session_hub.proofs.hub.Hub.join.Goals as goal

pub returns-clause-own : goal.returns-clause-own
returns-clause-own g c = (c.join.ensures.own, λ k l. founded_later c.args.self.now.domain k (marks_of c.args.passes.now k) (marks_of c.join.new.passes k) (c.requires.0.1 k l) (c.join.ensures.later.0 k l))
