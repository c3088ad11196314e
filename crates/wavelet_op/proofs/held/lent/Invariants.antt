use Rattle.std.proofs.Common.{◌≡◌, take}
use Rattle.std.specs.List.{All}
use Rattle.wavelet_op.specs.Acts.{meanings}
use Rattle.wavelet_op.specs.Passing.{acts_held, IsSettled}
use Rattle.wavelet_op.proofs.held.lent.Given as goal

abbrev pub invariant-loop-op : goal.invariant-loop-op
invariant-loop-op l = record {
  acts : acts_held l.list.items ≡ meanings (take l.op-index l.ops);
  settled : All IsSettled l.list.items;
}
