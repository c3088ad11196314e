use Rattle.std.proofs.Common.{take}
use Rattle.doc_items.specs.Changes.{ChangeSet, without}
use Rattle.doc_op.specs.Running.{Follows, KeepsThere}
use Rattle.doc_op.proofs.running.RunningKeys.stop_all.Given as goal

abbrev pub invariant-loop-key : goal.invariant-loop-key
invariant-loop-key l = ((u : ChangeSet) → Follows u l.fn.self → Follows (without u (take l.key-index l.ends)) l.self) × KeepsThere l.fn.self l.self
