use Rattle.std.proofs.Common.{take}
use Rattle.doc_items.specs.Changes.{ChangeSet, with_changes}
use Rattle.doc_op.specs.Running.{Follows, KeepsThere}
use Rattle.doc_op.proofs.running.RunningKeys.start_all.Given as goal

abbrev pub invariant-loop-change : goal.invariant-loop-change
invariant-loop-change l = ((u : ChangeSet) → Follows u l.fn.self → Follows (with_changes u (take l.change-index l.changes)) l.self) × KeepsThere l.fn.self l.self
