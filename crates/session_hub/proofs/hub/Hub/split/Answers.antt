use Rattle.session_hub.proofs.Turning.{founded_same, split_own}
use Rattle.session_hub.proofs.hub.Hub.split.Goals as goal

pub returns-clause-old : goal.returns-clause-old
returns-clause-old g c =
    let same = c.split.ensures.old.1 in
    ((c.split.ensures.old.0, founded_same c.args.self.now c.args.passes.now c.requires.1 c.split.new.passes (λ k l. (same k l).seen)), same)

pub returns-clause-new : goal.returns-clause-new
returns-clause-new g c = split_own c.args.self.now c.args.passes.now c.requires.1 c.split.result c.split.ensures.new c.split.ensures.seen
