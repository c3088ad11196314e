use Rattle.std.proofs.Common.{◌≡◌, ◌++◌, length, take}
use Rattle.std.specs.Int.{w32, to_be_bytes}
use Rattle.std.specs.Io.{StartsWith}
use Rattle.std.specs.List.{flat_map, AllByRecursion}
use Rattle.wavelet_codec.specs.Spelling.{op_bytes, IsOp}
use Rattle.wavelet_codec.proofs.writing.write_ops.Given as goal

abbrev pub invariant-loop-op : goal.invariant-loop-op
invariant-loop-op l = record {
  appended : l.out.items ≡ l.fn.out.items ++ to_be_bytes w32 (length l.ops) ++ flat_map op_bytes (take l.op-index l.ops);
  spelled : AllByRecursion IsOp (take l.op-index l.ops);
  begins : StartsWith l.out.items l.fn.out.items;
}
