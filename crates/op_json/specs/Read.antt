-- Components as JSON tells them: a value is a component, or it is none.
--     whole_number, text_of, optional_text_of     a number of digits alone; a text; a text or null
--     list_from f found ds      the values found so far with what f makes of each item, if it makes something of each
--     entry_of, attributes_of   a key and a value, as UTF-8 bytes; attributes, whose keys ascend in byte order
--     change_of, changes_of, keys_of, boundary_of, element_of, replaced_of     what the members of components hold
--     component_of d            an object with one member, by its name
--     operation_of d            an array of components, each of which a builder takes in turn; or else the index of the first
--                               that is none or that it refuses, and 0 for what is no array
use Rattle.std.specs.Prelude.{ℕ, ◌+◌, List, [], ◌∷◌, ◌++◌, Bool, true, false, if◌then◌else◌, Option, Some, None, is_some, option_map, option_and_then, unwrap_or, Result, Ok, Err, codes}
use Rattle.std.specs.Ordering.{nat_cmp, is_lt}
use Rattle.std.specs.Cmp.Lexicographic.{slice_cmp}
use Rattle.std.specs.Str.{chars, bytes_eq}
use Rattle.std.specs.FinMap.{empty, insert}
use Rattle.serde_json.specs.Data.{Data, Items, no_items, item}
use Rattle.serde_json.specs.Find.{as_null, as_bool, as_number, as_u64, as_str, as_array}
use Rattle.doc_items.specs.Maps.{Key, Map, is_next}
use Rattle.doc_items.specs.declared.change.Change.{Change}
use Rattle.doc_items.specs.declared.change.Boundary.{Boundary}
use Rattle.doc_op.specs.declared.component.Component.{Component}
use Rattle.doc_op.specs.declared.component.Component.TheVariants.{Retain, Characters, ElementStart, ElementEnd, DeleteCharacters, DeleteElementStart, DeleteElementEnd, ReplaceAttributes, UpdateAttributes, AnnotationBoundary}
use Rattle.doc_op.specs.Refusals.{takes}
use Rattle.op_json.specs.Members.{only_member, two_members, three_members}

-- ---- numbers, texts and lists

abbrev pub whole_number : Data → Option ℕ
whole_number d = option_and_then as_u64 (as_number d)

abbrev pub is_true : Data → Bool
is_true d = unwrap_or (as_bool d) false

abbrev pub text_of : Data → Option (List ℕ)
text_of d = option_map chars (as_str d)

abbrev pub optional_text_of : Data → Option (Option (List ℕ))
optional_text_of d = if is_some (as_null d) then Some None else option_map Some (text_of d)

abbrev pub list_from : {X : Type 0} → (Data → Option X) → List X → Items → Option (List X)
list_from f found no_items = Some found
list_from f found (item d ds) = option_and_then (λ x. list_from f (found ++ x ∷ []) ds) (f d)

-- ---- attributes

abbrev pub entry_of : Data → Option (Key × Key)
entry_of d = option_and_then (λ m. option_and_then (λ k. option_map (λ v. (k, v)) (as_str m.1)) (as_str m.0))
    (two_members (codes "key") (codes "value") d)

-- the attributes found so far, the last with this key, with those of the items
abbrev pub attributes_from : Map Key → Option Key → Items → Option (Map Key)
attributes_from m last no_items = Some m
attributes_from m last (item d ds) = option_and_then
    (λ e. if is_next last e.0 then attributes_from (insert m e.0 e.1) (Some e.0) ds else None) (entry_of d)

abbrev pub attributes_of : Data → Option (Map Key)
attributes_of d = option_and_then (attributes_from empty None) (as_array d)

-- ---- what the members hold

abbrev pub change_of : Data → Option Change
change_of d = option_and_then
    (λ m. option_and_then (λ key. option_and_then (λ old. option_map (λ new. record { key = key; old = old; new = new })
    (optional_text_of m.1)) (optional_text_of m.2)) (text_of m.0)) (three_members (codes "key") (codes "new") (codes "old") d)

abbrev pub changes_of : Data → Option (List Change)
changes_of d = option_and_then (list_from change_of []) (as_array d)

abbrev pub keys_of : Data → Option (List (List ℕ))
keys_of d = option_and_then (list_from text_of []) (as_array d)

abbrev pub boundary_of : Data → Option Boundary
boundary_of d = option_and_then (λ m. option_and_then (λ end. option_map (λ change. record { end = end; change = change })
    (changes_of m.0)) (keys_of m.1)) (two_members (codes "change") (codes "end") d)

-- a type and attributes
abbrev pub element_of : Data → Option (List ℕ × Map Key)
element_of d = option_and_then (λ m. option_and_then (λ kind. option_map (λ attributes. (kind, attributes))
    (attributes_of m.0)) (text_of m.1)) (two_members (codes "attribute") (codes "type") d)

-- the old attributes and the new ones
abbrev pub replaced_of : Data → Option (Map Key × Map Key)
replaced_of d = option_and_then (λ m. option_and_then (λ old. option_map (λ new. (old, new))
    (attributes_of m.0)) (attributes_of m.1)) (two_members (codes "new_attribute") (codes "old_attribute") d)

-- ---- components

-- where the object's member has this name and this value
abbrev pub component_at : List ℕ → Data → Option Component
component_at name d = if bytes_eq name (codes "retain_item_count") then option_map Retain (whole_number d)
    else (if bytes_eq name (codes "characters") then option_map Characters (text_of d)
    else (if bytes_eq name (codes "element_start") then option_map (λ e. ElementStart e.0 e.1) (element_of d)
    else (if bytes_eq name (codes "element_end") then (if is_true d then Some ElementEnd else None)
    else (if bytes_eq name (codes "delete_characters") then option_map DeleteCharacters (text_of d)
    else (if bytes_eq name (codes "delete_element_start") then option_map (λ e. DeleteElementStart e.0 e.1) (element_of d)
    else (if bytes_eq name (codes "delete_element_end") then (if is_true d then Some DeleteElementEnd else None)
    else (if bytes_eq name (codes "replace_attributes") then option_map (λ r. ReplaceAttributes r.0 r.1) (replaced_of d)
    else (if bytes_eq name (codes "update_attributes") then option_map UpdateAttributes (changes_of d)
    else (if bytes_eq name (codes "annotation_boundary") then option_map AnnotationBoundary (boundary_of d)
    else None)))))))))

abbrev pub component_of : Data → Option Component
component_of d = option_and_then (λ m. component_at m.0 m.1) (only_member d)

-- ---- operations

-- what f makes of a component that a builder with these takes, or else this index
abbrev pub if_taken : ℕ → List Component → (Component → Result (List Component) ℕ) → Option Component → Result (List Component) ℕ
if_taken index found f None = Err index
if_taken index found f (Some c) = if takes found c then f c else Err index

-- the components found so far with those of the items, the first of which has this index
abbrev pub operation_from : ℕ → List Component → Items → Result (List Component) ℕ
operation_from index found no_items = Ok found
operation_from index found (item d ds) = if_taken index found (λ c. operation_from (index + 1) (found ++ c ∷ []) ds) (component_of d)

abbrev pub operation_in : Option Items → Result (List Component) ℕ
operation_in None = Err 0
operation_in (Some ds) = operation_from 0 [] ds

abbrev pub operation_of : Data → Result (List Component) ℕ
operation_of d = operation_in (as_array d)
