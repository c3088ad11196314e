use Rattle.std.proofs.Common.{◌≡◌, ◌+◌, length, take}
use Rattle.std.specs.List.{flat_map}
use Rattle.op_codec.specs.Spelling.{capped}
use Rattle.wavelet_codec.specs.Spelling.{op_bytes}
use Rattle.wavelet_codec.proofs.measure.normal_ops_len.Given as goal

abbrev pub invariant-loop-op : goal.invariant-loop-op
invariant-loop-op l = l.size ≡ capped (4 + length (flat_map op_bytes (take l.op-index l.list)))
