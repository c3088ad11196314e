-- The stretch of a document that replacements lie in, and what puts a document back.
--     first_from rs, last_end p rs     the place where the first replacement begins, and where the last one ends
--     stretch from count items         that many items from a place on
--     Restores back after before       put in, the replacement makes of the items after an edit those before it
use Rattle.std.specs.Prelude.{◌≡◌, ℕ, ◌+◌, ◌≤◌, List, [], ◌∷◌, length, take, drop}
use Rattle.doc_items.specs.declared.item.Item.{Item}
use Rattle.doc_rope.specs.declared.replacement.Replacement.{Replacement}
use Rattle.doc_rope.specs.Replacements.{replaced}

abbrev pub first_from : List Replacement → ℕ
first_from [] = 0
first_from (r ∷ rs) = r.from

abbrev pub last_end : ℕ → List Replacement → ℕ
last_end p [] = p
last_end p (r ∷ rs) = last_end (r.from + r.count) rs

abbrev pub stretch : ℕ → ℕ → List Item → List Item
stretch from count items = take count (drop from items)

pub record Restores (back : Replacement) (after before : List Item) : Type 0 where
  pub inside : back.from + back.count ≤ length after
  pub is : replaced back after ≡ before
