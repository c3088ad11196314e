-- What is written has no float.
use Rattle.std.proofs.Common.{◌≡◌, ℕ, List, [], ◌∷◌, Option, Some, None, false, map, refl}
use Rattle.std.specs.FinMap.{entries}
use Rattle.serde_json.specs.Data.{Data}
use Rattle.serde_json.specs.View.{items_of}
use Rattle.serde_json.specs.Written.{has_float, items_have_float}
use Rattle.doc_items.specs.Maps.{Key, Map}
use Rattle.doc_items.specs.declared.change.Change.{Change}
use Rattle.doc_items.specs.declared.change.Boundary.{Boundary}
use Rattle.doc_op.specs.declared.component.Component.{Component}
use Rattle.doc_op.specs.declared.component.Component.TheVariants.{Retain, Characters, ElementStart, ElementEnd, DeleteCharacters, DeleteElementStart, DeleteElementEnd, ReplaceAttributes, UpdateAttributes, AnnotationBoundary}
use Rattle.op_json.specs.Write.{text_data, optional_data, entry_data, attributes_data, change_data, boundary_data, component_data, op_data}

each_clear : {X : Type 0} (f : X → Data) → ((x : X) → has_float (f x) ≡ false) → (xs : List X) → items_have_float (items_of (map f xs)) ≡ false
each_clear f h [] = refl
each_clear f h (x ∷ xs) = rw (h x) (each_clear f h xs)

optional_clear : (t : Option (List ℕ)) → has_float (optional_data t) ≡ false
optional_clear None = refl
optional_clear (Some t) = refl

attributes_clear : (m : Map Key) → has_float (attributes_data m) ≡ false
attributes_clear m = each_clear entry_data (λ e. refl) (entries m)

change_clear : (c : Change) → has_float (change_data c) ≡ false
change_clear c = rw (optional_clear c.new, optional_clear c.old) refl

boundary_clear : (b : Boundary) → has_float (boundary_data b) ≡ false
boundary_clear b = rw (each_clear change_data change_clear b.change, each_clear text_data (λ t. refl) b.end) refl

component_clear : (c : Component) → has_float (component_data c) ≡ false
component_clear (Retain n) = refl
component_clear (Characters text) = refl
component_clear (ElementStart kind attributes) = rw (attributes_clear attributes) refl
component_clear ElementEnd = refl
component_clear (DeleteCharacters text) = refl
component_clear (DeleteElementStart kind attributes) = rw (attributes_clear attributes) refl
component_clear DeleteElementEnd = refl
component_clear (ReplaceAttributes old new) = rw (attributes_clear new, attributes_clear old) refl
component_clear (UpdateAttributes changes) = rw (each_clear change_data change_clear changes) refl
component_clear (AnnotationBoundary b) = rw (boundary_clear b) refl

pub op_clear : (cs : List Component) → has_float (op_data cs) ≡ false
op_clear cs = each_clear component_data component_clear cs
