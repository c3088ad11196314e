-- What ends and what changes, gathered key by key, and the boundary that is made of it.
--     with_change u q c   the set with this change of the key; None leaves it as it is
--     HasAmong ks v w     w has what v has at these keys, and nothing elsewhere
--     Between b e c       the boundary ends the keys of e and changes those of c, of which there are some, and all are texts
--     IsBetween t e c     t is such a boundary; or it is None, and e and c are empty
use Rattle.std.specs.Prelude.{◌≡◌, ℕ, List, cond, false, Option, None, Some, ◌&&◌, ◌==◌}
use Rattle.std.specs.FinMap.{get, insert, len}
use Rattle.doc_items.specs.Maps.{Key}
use Rattle.doc_items.specs.Changes.{KeyChange, ChangeSet}
use Rattle.doc_items.specs.declared.change.Boundary.{Boundary}
use Rattle.change_view.specs.Texts.{AreTexts, key_list, change_list}
use Rattle.change_table.specs.Keys.{is_among}

abbrev pub with_change : ChangeSet → Key → Option KeyChange → ChangeSet
with_change u q None = u
with_change u q (Some c) = insert u q c

abbrev pub HasAmong : List (List ℕ) → ChangeSet → ChangeSet → Type 0
HasAmong ks v w = (q : Key) → get w q ≡ cond (is_among ks q) (get v q) None

pub record Between (b : Boundary) (e c : ChangeSet) : Type 0 where
  pub some : (len e == 0 && len c == 0) ≡ false
  pub value : b ≡ record { end = key_list e; change = change_list c }
  pub ended : AreTexts e
  pub changed : AreTexts c

abbrev pub IsBetween : Option Boundary → ChangeSet → ChangeSet → Type 0
IsBetween None e c = (len e ≡ 0) × (len c ≡ 0)
IsBetween (Some b) e c = Between b e c
