use mathlib.Core.List.{IsPrefix}
use Rattle.session_hub.specs.Entries.{entries_of}
use Rattle.shard_marks.specs.Passes.{marks_of}
use Rattle.session_hub.proofs.Turning.{closed_each}
use Rattle.session_hub.proofs.hub.Hub.close.Goals as goal

pub returns-clause-seen : goal.returns-clause-seen
returns-clause-seen g c = closed_each (λ v. v.items) (λ k s. IsPrefix (marks_of c.args.passes k) (entries_of s)) c.close.result c.close.ensures.seen
