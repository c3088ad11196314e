-- Stretches of a list, each replaced by other items.
--     replaced r items         one stretch replaced
--     all_replaced rs items    each replaced, the last one first, so that the places of those before it stay
--     InOrder p rs n           the stretches stand one after another between the places p and n
--     taken_away, put_in rs    how many items are replaced, and by how many
use Rattle.std.specs.Prelude.{ℕ, ◌+◌, ◌≤◌, List, [], ◌∷◌, ◌++◌, length, take, drop}
use Rattle.doc_items.specs.declared.item.Item.{Item}
use Rattle.doc_rope.specs.declared.replacement.Replacement.{Replacement}

abbrev pub replaced : Replacement → List Item → List Item
replaced r items = take r.from items ++ r.items ++ drop (r.from + r.count) items

abbrev pub all_replaced : List Replacement → List Item → List Item
all_replaced [] items = items
all_replaced (r ∷ rs) items = replaced r (all_replaced rs items)

abbrev pub InOrder : ℕ → List Replacement → ℕ → Type 0
InOrder p [] n = p ≤ n
InOrder p (r ∷ rs) n = (p ≤ r.from) × InOrder (r.from + r.count) rs n

abbrev pub taken_away : List Replacement → ℕ
taken_away [] = 0
taken_away (r ∷ rs) = r.count + taken_away rs

abbrev pub put_in : List Replacement → ℕ
put_in [] = 0
put_in (r ∷ rs) = length r.items + put_in rs
