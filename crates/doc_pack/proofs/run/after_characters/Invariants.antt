use Rattle.std.proofs.Common.{◌≡◌, ◌++◌, IsUtf8, List}
use Rattle.std.specs.Str.{chars}
use Rattle.std.specs.Str.Iter.{chars_rest}
use Rattle.doc_items.specs.declared.item.Item.{Item}
use Rattle.doc_pack.specs.Characters.{character_items}
use Rattle.doc_pack.proofs.run.after_characters.Given as goal

abbrev pub invariant-loop-c : goal.invariant-loop-c
invariant-loop-c l = record {
  utf8 : IsUtf8 (chars_rest l.c-iterator);
  passed : (other : List Item) → l.rest ≡ character_items l.notes (chars (chars_rest l.c-iterator)) ++ other
      → l.fn.items ≡ character_items l.notes (chars l.fn.text) ++ other;
}
