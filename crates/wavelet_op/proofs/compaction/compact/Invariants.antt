use Rattle.wavelet_op.proofs.Joinings.{IsCompacting}
use Rattle.wavelet_op.proofs.compaction.compact.Given as goal

abbrev pub invariant-loop-index : goal.invariant-loop-index
invariant-loop-index l = IsCompacting l.list l.done.items l.last l.index
