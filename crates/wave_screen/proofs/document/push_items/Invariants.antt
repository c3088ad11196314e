use Rattle.std.proofs.Common.{◌≡◌, ◌++◌, drop, string_bytes}
use Rattle.wave_screen.specs.Escapes.{items_text, notes_after}
use Rattle.wave_screen.proofs.document.push_items.Given as goal

abbrev pub invariant-loop-item : goal.invariant-loop-item
invariant-loop-item l = record {
  text : string_bytes l.out ++ items_text l.before (drop l.item-index l.items) ≡ string_bytes l.fn.out ++ items_text l.fn.before l.items;
  notes : notes_after l.before (drop l.item-index l.items) ≡ notes_after l.fn.before l.items;
}
