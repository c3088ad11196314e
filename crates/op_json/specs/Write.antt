-- The table of components: the JSON that is written for each, members in byte order of their names.
--     one name d         an object with one member
--     list_data f xs     an array of what f gives for each
--     text_data, optional_data     a text as a string; a text, or null where there is none
--     attributes_data    the entries of a map, in byte order of their keys
--     change_data, boundary_data, element_data, replaced_data      what the members of components hold
--     component_data     a component
--     op_data            the components of an operation, as they stand
use Rattle.std.specs.Prelude.{ℕ, List, Option, Some, None, true, map, codes}
use Rattle.std.specs.Str.{encode_utf8_all}
use Rattle.std.specs.FinMap.{entries}
use Rattle.serde_json.specs.Data.{Data, null, boolean, number, unsigned, string, array, object, no_members, member}
use Rattle.serde_json.specs.View.{items_of}
use Rattle.doc_items.specs.Maps.{Key, Map}
use Rattle.doc_items.specs.declared.change.Change.{Change}
use Rattle.doc_items.specs.declared.change.Boundary.{Boundary}
use Rattle.doc_op.specs.declared.component.Component.{Component}
use Rattle.doc_op.specs.declared.component.Component.TheVariants.{Retain, Characters, ElementStart, ElementEnd, DeleteCharacters, DeleteElementStart, DeleteElementEnd, ReplaceAttributes, UpdateAttributes, AnnotationBoundary}

abbrev pub one : List ℕ → Data → Data
one name d = object (member name d no_members)

abbrev pub list_data : {X : Type 0} → (X → Data) → List X → Data
list_data f xs = array (items_of (map f xs))

abbrev pub text_data : List ℕ → Data
text_data t = string (encode_utf8_all t)

abbrev pub optional_data : Option (List ℕ) → Data
optional_data None = null
optional_data (Some t) = text_data t

abbrev pub entry_data : Key × Key → Data
entry_data e = object (member (codes "key") (string e.0) (member (codes "value") (string e.1) no_members))

abbrev pub attributes_data : Map Key → Data
attributes_data m = list_data entry_data (entries m)

abbrev pub change_data : Change → Data
change_data c = object (member (codes "key") (text_data c.key)
    (member (codes "new") (optional_data c.new) (member (codes "old") (optional_data c.old) no_members)))

abbrev pub boundary_data : Boundary → Data
boundary_data b = object (member (codes "change") (list_data change_data b.change)
    (member (codes "end") (list_data text_data b.end) no_members))

abbrev pub element_data : List ℕ → Map Key → Data
element_data kind attributes = object
    (member (codes "attribute") (attributes_data attributes) (member (codes "type") (text_data kind) no_members))

abbrev pub replaced_data : Map Key → Map Key → Data
replaced_data old new = object
    (member (codes "new_attribute") (attributes_data new) (member (codes "old_attribute") (attributes_data old) no_members))

abbrev pub component_data : Component → Data
component_data (Retain n) = one (codes "retain_item_count") (number (unsigned n))
component_data (Characters text) = one (codes "characters") (text_data text)
component_data (ElementStart kind attributes) = one (codes "element_start") (element_data kind attributes)
component_data ElementEnd = one (codes "element_end") (boolean true)
component_data (DeleteCharacters text) = one (codes "delete_characters") (text_data text)
component_data (DeleteElementStart kind attributes) = one (codes "delete_element_start") (element_data kind attributes)
component_data DeleteElementEnd = one (codes "delete_element_end") (boolean true)
component_data (ReplaceAttributes old new) = one (codes "replace_attributes") (replaced_data old new)
component_data (UpdateAttributes changes) = one (codes "update_attributes") (list_data change_data changes)
component_data (AnnotationBoundary b) = one (codes "annotation_boundary") (boundary_data b)

abbrev pub op_data : List Component → Data
op_data cs = list_data component_data cs
