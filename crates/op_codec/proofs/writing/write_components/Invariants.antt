use Rattle.std.proofs.Common.{◌≡◌, ◌++◌, length, take}
use Rattle.std.specs.Int.{w32, to_be_bytes}
use Rattle.std.specs.Io.{StartsWith}
use Rattle.std.specs.List.{flat_map}
use Rattle.op_codec.specs.Spelling.{component}
use Rattle.op_codec.proofs.writing.write_components.Given as goal

abbrev pub invariant-loop-component : goal.invariant-loop-component
invariant-loop-component l = record {
  appended : l.out.items ≡ l.fn.out.items ++ to_be_bytes w32 (length l.components) ++ flat_map component (take l.component-index l.components);
  begins : StartsWith l.out.items l.fn.out.items;
}
