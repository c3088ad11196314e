use Rattle.std.proofs.Common.{◌≡◌, ◌+◌, [], length}
use Rattle.op_codec.specs.Reading.{list_of}
use Rattle.wavelet_op.specs.Acts.{AreNormal}
use Rattle.wavelet_codec.specs.Reading.{op_at}
use Rattle.wavelet_codec.proofs.operation.ops_of.Given as goal

abbrev pub invariant-loop-left : goal.invariant-loop-left
invariant-loop-left l = record {
  read : list_of op_at [] l.count l.bytes ≡ list_of op_at l.ops.items l.left l.rest;
  normal : AreNormal l.ops.items;
  counted : length l.ops.items + l.left ≡ l.count;
}

abbrev pub decreases-loop-left : goal.decreases-loop-left
decreases-loop-left l = l.left
