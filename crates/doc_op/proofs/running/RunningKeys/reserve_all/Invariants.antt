use Rattle.doc_op.specs.Running.{AreThereBelow, SameSwitches}
use Rattle.doc_op.proofs.running.RunningKeys.reserve_all.Given as goal

abbrev pub invariant-loop-change : goal.invariant-loop-change
invariant-loop-change l = AreThereBelow l.change-index l.self l.changes × SameSwitches l.fn.self l.self
