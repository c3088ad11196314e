use Rattle.std.proofs.Common.{length, drop}
use Rattle.wavelet_op.specs.Acts.{meanings}
use Rattle.wavelet_op.specs.Passing.{acts_held}
use Rattle.wavelet_op.proofs.Griddings.{IsGridding}
use Rattle.wavelet_op.proofs.transform.pass_all.Given as goal

abbrev pub invariant-loop-index : goal.invariant-loop-index
invariant-loop-index l = IsGridding (meanings l.later) (acts_held l.fn.earlier.items) (length l.fn.earlier.items) l.done.items l.index (meanings (drop l.index l.later)) l.passed.items
