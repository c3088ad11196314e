-- What each edit makes of the items of a document.
--     range items from count     so many items from a place on
--     replaced items from count new     the items with these in place of that range
--     left_notes items place     the annotations of the item left of a place; none at place 0
--     with_notes m contents      items of these contents, each with these annotations
--     new_text, typed            a text's characters as new items;  the items with them at a place
--     new_element, with_element  an element's start and end as new items;  the items with them at a place
--     bare, with_contents        items of these contents without annotations;  the items with them at a place
--     erased                     the items without a range
--     noted, annotated           an item, and the items of a range, with one annotation set or taken away
--     attributes_of, attributes_at   the attributes of an element's start;  of the one at a place
--     attributed, with_attribute an element's start, and the one at a place, with one attribute set or taken away
use Rattle.std.specs.Prelude.{ℕ, zero, suc, ◌+◌, List, [], ◌∷◌, ◌++◌, map, take, drop, slice_get, Option, None, Some, option_and_then}
use Rattle.std.specs.FinMap.{empty}
use Rattle.doc_items.specs.Maps.{Key, Map, set_key}
use Rattle.doc_items.specs.declared.item.Content.{Content}
use Rattle.doc_items.specs.declared.item.Content.TheVariants.{Character, Start, End}
use Rattle.doc_items.specs.declared.item.Item.{Item}

abbrev pub range : List Item → ℕ → ℕ → List Item
range items from count = take count (drop from items)

abbrev pub replaced : List Item → ℕ → ℕ → List Item → List Item
replaced items from count new = take from items ++ new ++ drop (from + count) items

-- ---- new items

abbrev pub notes_of : Option Item → Map Key
notes_of None = empty
notes_of (Some i) = i.notes

abbrev pub left_notes : List Item → ℕ → Map Key
left_notes items zero = empty
left_notes items (suc n) = notes_of (slice_get items n)

abbrev pub with_notes : Map Key → List Content → List Item
with_notes m contents = map (λ c. record { content = c; notes = m }) contents

abbrev pub new_text : List Item → ℕ → List ℕ → List Item
new_text items place text = with_notes (left_notes items place) (map Character text)

abbrev pub typed : List Item → ℕ → List ℕ → List Item
typed items place text = replaced items place 0 (new_text items place text)

abbrev pub new_element : List Item → ℕ → List ℕ → Map Key → List Item
new_element items place kind attributes = with_notes (left_notes items place) (Start kind attributes ∷ End ∷ [])

abbrev pub with_element : List Item → ℕ → List ℕ → Map Key → List Item
with_element items place kind attributes = replaced items place 0 (new_element items place kind attributes)

abbrev pub bare : List Content → List Item
bare contents = with_notes empty contents

abbrev pub with_contents : List Item → ℕ → List Content → List Item
with_contents items place contents = replaced items place 0 (bare contents)

-- ---- items that are there

abbrev pub erased : List Item → ℕ → ℕ → List Item
erased items from count = replaced items from count []

abbrev pub noted : Key → Option Key → Item → Item
noted key value i = record { content = i.content; notes = set_key i.notes key value }

abbrev pub annotated : List Item → ℕ → ℕ → Key → Option Key → List Item
annotated items from count key value = replaced items from count (map (noted key value) (range items from count))

abbrev pub attributes_of : Content → Option (Map Key)
attributes_of (Character c) = None
attributes_of (Start kind attributes) = Some attributes
attributes_of End = None

abbrev pub attributes_at : List Item → ℕ → Option (Map Key)
attributes_at items place = option_and_then (λ i. attributes_of i.content) (slice_get items place)

abbrev pub attributed_content : Key → Option Key → Content → Content
attributed_content key value (Character c) = Character c
attributed_content key value (Start kind attributes) = Start kind (set_key attributes key value)
attributed_content key value End = End

abbrev pub attributed : Key → Option Key → Item → Item
attributed key value i = record { content = attributed_content key value i.content; notes = i.notes }

abbrev pub with_attribute : List Item → ℕ → Key → Option Key → List Item
with_attribute items place key value = replaced items place 1 (map (attributed key value) (range items place 1))
