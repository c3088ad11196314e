-- Items in a row, read from a place on.
--     IsRun items p run      the run begins the items from place p on, and is empty only where there are none
use Rattle.std.specs.Prelude.{◌≡◌, ℕ, ◌≤◌, List, length, take, drop}
use Rattle.doc_items.specs.declared.item.Item.{Item}

abbrev pub IsRun : List Item → ℕ → List Item → Type 0
IsRun items p run = (take (length run) (drop p items) ≡ run) × (length run ≡ 0 → length items ≤ p)
