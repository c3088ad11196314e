use Rattle.std.proofs.Common.{◌≡◌, ◌++◌, length, map}
use Rattle.std.specs.Int.{w32, to_be_bytes}
use Rattle.std.specs.Io.{StartsWith}
use Rattle.std.specs.List.{flat_map}
use Rattle.std.specs.FinMap as finite
use Rattle.doc_items.specs.Maps.{pair_of}
use Rattle.op_codec.specs.Spelling.{attribute}
use Rattle.op_codec.proofs.writing.write_attributes.Given as goal

abbrev pub invariant-loop-key : goal.invariant-loop-key
invariant-loop-key l = record {
  appended : l.out.items ++ flat_map attribute (map pair_of l.key-iterator) ≡ l.fn.out.items ++ to_be_bytes w32 (length (finite.entries l.map)) ++ flat_map attribute (finite.entries l.map);
  begins : StartsWith l.out.items l.fn.out.items;
}
