-- Where an edit can be made, and why it is refused, in the order in which it is told.
--     CanInsert, IsInsertingRefused       there are items, their place is in the document, and there is room for them
--     CanErase, IsErasingRefused          a range has items, lies in the document, and is balanced by itself
--     CanAnnotate, IsAnnotatingRefused    a range has items, and lies in the document
--     CanSet, IsSettingRefused            an element's start stands at the place
use Rattle.std.specs.Prelude.{◌≡◌, ◌≢◌, ℕ, ◌+◌, ◌<◌, ◌≤◌, List, length, None}
use Rattle.doc_items.specs.Balance.{Balanced}
use Rattle.doc_items.specs.Limits.{max_count}
use Rattle.doc_items.specs.declared.item.Item.{Item}
use Rattle.op_build.specs.Edits.{range, attributes_at}
use Rattle.op_build.specs.declared.fault.BuildFault.{BuildFault}
use Rattle.op_build.specs.declared.fault.BuildFault.TheVariants.{ZeroCount, OutOfRange, CutsElement, CountTooLarge, Memory}

-- ---- new items

abbrev pub CanInsert : List Item → ℕ → ℕ → Type 0
CanInsert items place count = (0 < count) × (place ≤ length items) × (length items + count ≤ max_count)

abbrev pub IsInsertingRefused : BuildFault → List Item → ℕ → ℕ → Type 0
IsInsertingRefused ZeroCount items place count = count ≡ 0
IsInsertingRefused OutOfRange items place count = (0 < count) × (length items < place)
IsInsertingRefused CutsElement items place count = ⊥
IsInsertingRefused CountTooLarge items place count = (0 < count) × (place ≤ length items) × (max_count < length items + count)
IsInsertingRefused Memory items place count = Unit {0}

-- ---- items that are there

abbrev pub CanErase : List Item → ℕ → ℕ → Type 0
CanErase items from count = (0 < count) × (from + count ≤ length items) × Balanced (range items from count)

abbrev pub IsErasingRefused : BuildFault → List Item → ℕ → ℕ → Type 0
IsErasingRefused ZeroCount items from count = count ≡ 0
IsErasingRefused OutOfRange items from count = (0 < count) × (length items < from + count)
IsErasingRefused CutsElement items from count = (0 < count) × (from + count ≤ length items) × (Balanced (range items from count) → ⊥)
IsErasingRefused CountTooLarge items from count = ⊥
IsErasingRefused Memory items from count = Unit {0}

abbrev pub CanAnnotate : List Item → ℕ → ℕ → Type 0
CanAnnotate items from count = (0 < count) × (from + count ≤ length items)

abbrev pub IsAnnotatingRefused : BuildFault → List Item → ℕ → ℕ → Type 0
IsAnnotatingRefused ZeroCount items from count = count ≡ 0
IsAnnotatingRefused OutOfRange items from count = (0 < count) × (length items < from + count)
IsAnnotatingRefused CutsElement items from count = ⊥
IsAnnotatingRefused CountTooLarge items from count = ⊥
IsAnnotatingRefused Memory items from count = Unit {0}

abbrev pub CanSet : List Item → ℕ → Type 0
CanSet items place = attributes_at items place ≢ None

abbrev pub IsSettingRefused : BuildFault → List Item → ℕ → Type 0
IsSettingRefused ZeroCount items place = ⊥
IsSettingRefused OutOfRange items place = attributes_at items place ≡ None
IsSettingRefused CutsElement items place = ⊥
IsSettingRefused CountTooLarge items place = ⊥
IsSettingRefused Memory items place = Unit {0}
