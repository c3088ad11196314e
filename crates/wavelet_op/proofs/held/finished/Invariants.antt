use Rattle.std.proofs.Common.{◌≡◌, ◌++◌}
use Rattle.std.specs.List.{All}
use Rattle.std.specs.Vec.Iter.{into_iter_items}
use Rattle.wavelet_op.specs.Acts.{meanings, AreNormal}
use Rattle.wavelet_op.specs.Passing.{acts_held, IsSettled}
use Rattle.wavelet_op.proofs.held.finished.Given as goal

abbrev pub invariant-loop-op : goal.invariant-loop-op
invariant-loop-op l = record {
  same : meanings l.ops.items ++ acts_held (into_iter_items l.op-iterator) ≡ acts_held l.fn.list.items;
  normal : AreNormal l.ops.items;
  rest : All IsSettled (into_iter_items l.op-iterator);
}
