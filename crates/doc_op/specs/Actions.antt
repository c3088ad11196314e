-- What an operation means: a list of actions, one for each item that it takes or gives.
--     AttributeChange      none; an update of some keys; or one whole map in place of another
--     Names                keys that a deletion names, each with a value or as absent
--     Action               an item is kept and changed, inserted, or deleted
--     new_values, old_values     what running changes give to an inserted item, and what a deleted one has to have
--     running cs           the changes that run after these components
--     component_actions u c      the actions of a component under the running changes u
--     actions cs           the actions of an operation
use Rattle.std.specs.Prelude.{List, [], ◌∷◌, ◌++◌, map, replicate, Option, option_and_then}
use Rattle.std.specs.FinMap.{get, keys}
use Rattle.doc_items.specs.Maps.{Key, Map, tabulate, each}
use Rattle.doc_items.specs.Changes.{ChangeSet, none_running, change_set, after_boundary}
use Rattle.doc_items.specs.declared.item.Content.{Content}
use Rattle.doc_items.specs.declared.item.Content.TheVariants.{Character, Start, End}
use Rattle.doc_items.specs.declared.item.Item.{Item}
use Rattle.doc_op.specs.declared.component.Component.{Component}
use Rattle.doc_op.specs.declared.component.Component.TheVariants.{Retain, Characters, ElementStart, ElementEnd, DeleteCharacters, DeleteElementStart, DeleteElementEnd, ReplaceAttributes, UpdateAttributes, AnnotationBoundary}

pub data AttributeChange : Type 0 where
  Unchanged : AttributeChange
  Update : ChangeSet → AttributeChange
  Replace : Map Key → Map Key → AttributeChange

abbrev pub Names : Type 0
Names = Map (Option Key)

pub data Action : Type 0 where
  Keep : ChangeSet → AttributeChange → Action
  Ins : Item → Action
  Del : Content → Names → Action

-- the new values that are present
abbrev pub new_values : ChangeSet → Map Key
new_values u = tabulate (keys u) (λ k. option_and_then (λ c. c.new) (get u k))

-- every key with its old value, or as absent
abbrev pub old_values : ChangeSet → Names
old_values u = each (λ c. c.old) u

abbrev pub keep : ChangeSet → Action
keep u = Keep u Unchanged

abbrev pub insertion : ChangeSet → Content → Action
insertion u c = Ins (record { content = c; notes = new_values u })

abbrev pub deletion : ChangeSet → Content → Action
deletion u c = Del c (old_values u)

abbrev pub component_actions : ChangeSet → Component → List Action
component_actions u (Retain n) = replicate n (keep u)
component_actions u (Characters text) = map (λ c. insertion u (Character c)) text
component_actions u (ElementStart kind attributes) = insertion u (Start kind attributes) ∷ []
component_actions u ElementEnd = insertion u End ∷ []
component_actions u (DeleteCharacters text) = map (λ c. deletion u (Character c)) text
component_actions u (DeleteElementStart kind attributes) = deletion u (Start kind attributes) ∷ []
component_actions u DeleteElementEnd = deletion u End ∷ []
component_actions u (ReplaceAttributes old new) = Keep u (Replace old new) ∷ []
component_actions u (UpdateAttributes changes) = Keep u (Update (change_set changes)) ∷ []
component_actions u (AnnotationBoundary b) = []

-- the changes that run after a component
abbrev pub running_after : ChangeSet → Component → ChangeSet
running_after u (Retain n) = u
running_after u (Characters text) = u
running_after u (ElementStart kind attributes) = u
running_after u ElementEnd = u
running_after u (DeleteCharacters text) = u
running_after u (DeleteElementStart kind attributes) = u
running_after u DeleteElementEnd = u
running_after u (ReplaceAttributes old new) = u
running_after u (UpdateAttributes changes) = u
running_after u (AnnotationBoundary b) = after_boundary u b

abbrev pub running_from : ChangeSet → List Component → ChangeSet
running_from u [] = u
running_from u (c ∷ cs) = running_from (running_after u c) cs

abbrev pub actions_from : ChangeSet → List Component → List Action
actions_from u [] = []
actions_from u (c ∷ cs) = component_actions u c ++ actions_from (running_after u c) cs

abbrev pub running : List Component → ChangeSet
running cs = running_from none_running cs

abbrev pub actions : List Component → List Action
actions cs = actions_from none_running cs
