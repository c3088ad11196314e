use Rattle.std.proofs.Common.{◌≡◌, ◌++◌, length, take}
use Rattle.std.specs.Int.{w32, to_be_bytes}
use Rattle.std.specs.Io.{StartsWith}
use Rattle.std.specs.List.{flat_map}
use Rattle.op_codec.specs.Spelling.{text}
use Rattle.op_codec.proofs.writing.write_keys.Given as goal

abbrev pub invariant-loop-key : goal.invariant-loop-key
invariant-loop-key l = record {
  appended : l.out.items ≡ l.fn.out.items ++ to_be_bytes w32 (length l.keys) ++ flat_map text (take l.key-index l.keys);
  begins : StartsWith l.out.items l.fn.out.items;
}
