use Rattle.std.proofs.Common.{◌≡◌, ◌++◌, length, take}
use Rattle.std.specs.Int.{w32, to_be_bytes}
use Rattle.std.specs.Io.{StartsWith}
use Rattle.std.specs.List.{flat_map}
use Rattle.op_codec.specs.Spelling.{change}
use Rattle.op_codec.proofs.writing.write_changes.Given as goal

abbrev pub invariant-loop-change : goal.invariant-loop-change
invariant-loop-change l = record {
  appended : l.out.items ≡ l.fn.out.items ++ to_be_bytes w32 (length l.changes) ++ flat_map change (take l.change-index l.changes);
  begins : StartsWith l.out.items l.fn.out.items;
}
