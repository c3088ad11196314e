use Rattle.std.proofs.Common.{length}
use Rattle.std.specs.Vec.Iter.{into_iter_items}
use Rattle.wavelet_op.specs.Passing.{act_held, acts_held}
use Rattle.wavelet_op.proofs.Passes.{IsPassing}
use Rattle.wavelet_op.proofs.pass.pass.Given as goal

abbrev pub invariant-loop-op : goal.invariant-loop-op
invariant-loop-op l = IsPassing (act_held l.fn.later) (acts_held l.fn.earlier.items) (length l.fn.earlier.items) l.later l.passed.items (into_iter_items l.op-iterator)
