use Rattle.std.proofs.Common.{drop}
use Rattle.wavelet_op.specs.Acts.{meanings, AreStructuredActs}
use Rattle.wavelet_op.proofs.ops.Ops.is_structured.Given as goal

abbrev pub invariant-loop-op : goal.invariant-loop-op
invariant-loop-op l = record {
  back : AreStructuredActs (meanings (drop l.op-index l.op-items)) → AreStructuredActs (meanings l.op-items);
  on : AreStructuredActs (meanings l.op-items) → AreStructuredActs (meanings (drop l.op-index l.op-items));
}
