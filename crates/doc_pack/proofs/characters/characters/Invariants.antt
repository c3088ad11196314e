use Rattle.std.proofs.Common.{◌≡◌, length, string_bytes}
use Rattle.std.specs.Str.{chars}
use Rattle.doc_pack.specs.Characters.{AreCharacters}
use Rattle.doc_pack.proofs.characters.characters.Given as goal

abbrev pub invariant-loop-item : goal.invariant-loop-item
invariant-loop-item l = record {
  are : AreCharacters l.items l.notes (chars (string_bytes l.text));
  count : length (chars (string_bytes l.text)) ≡ l.item-index;
  counted : l.count ≡ l.item-index;
}
