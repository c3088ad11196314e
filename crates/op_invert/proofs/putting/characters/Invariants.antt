use Rattle.std.proofs.Common.{◌≡◌, length}
use Rattle.doc_pack.specs.Characters.{AreCharacters}
use Rattle.op_invert.proofs.putting.characters.Given as goal

abbrev pub invariant-loop-item : goal.invariant-loop-item
invariant-loop-item l = record {
  are : AreCharacters l.items l.notes l.text.items;
  count : length l.text.items ≡ l.item-index;
}
