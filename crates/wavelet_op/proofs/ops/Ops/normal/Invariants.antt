use Rattle.std.proofs.Common.{◌≡◌, take, length}
use Rattle.wavelet_op.specs.Acts.{meanings, AreNormal}
use Rattle.wavelet_op.proofs.ops.Ops.normal.Given as goal

abbrev pub invariant-loop-op : goal.invariant-loop-op
invariant-loop-op l = record {
  same : meanings l.list.items ≡ meanings (take l.op-index l.op-items);
  normal : AreNormal l.list.items;
  long : length l.list.items ≡ l.op-index;
}
