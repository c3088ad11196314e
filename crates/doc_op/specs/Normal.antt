-- The normal form: the one list of components that is written for some actions.
--     shown a              the changes that run over an action's item: over an insertion its annotations, as absent before; over
--                          a deletion the annotations that it names, as absent afterwards
--     shown_after u acts   what runs over the last of these actions, or u where there are none
--     shown_last acts      what runs over the last action; nothing where there are none
--     component_of a       the component of one action
--     in_front c cs        a component in front of others, as one with the first of them where both are retains, characters or
--                          deleted characters
--     step u w             the boundary between neighbours, where different changes run over them
--     normal_from u acts   the components of these actions where u runs before them; at the end all that runs ends
--     normal_form acts     the components of an operation with these actions
--     IsWritable a         the action has a spelling: its keys and values are texts, and an update has a key
--     AreWritable acts     each action has a spelling
use Rattle.std.specs.Prelude.{◌≢◌, ◌+◌, List, [], ◌∷◌, ◌++◌, cond, Option, None}
use Rattle.doc_items.specs.Maps.{Key, each}
use Rattle.doc_items.specs.Changes.{KeyChange, ChangeSet, none_running}
use Rattle.doc_items.specs.declared.item.Content.{Content}
use Rattle.doc_items.specs.declared.item.Content.TheVariants.{Character, Start, End}
use Rattle.change_view.specs.Sets.{same_changes, from_absent}
use Rattle.change_view.specs.Texts.{AreTexts, change_list, boundary_between}
use Rattle.doc_op.specs.declared.component.Component.{Component}
use Rattle.doc_op.specs.declared.component.Component.TheVariants.{Retain, Characters, ElementStart, ElementEnd, DeleteCharacters, DeleteElementStart, DeleteElementEnd, ReplaceAttributes, UpdateAttributes, AnnotationBoundary}
use Rattle.doc_op.specs.Actions.{AttributeChange, Unchanged, Update, Replace, Names, Action, Keep, Ins, Del}

-- ---- one action

-- a value that is there no more
abbrev pub gone : Option Key → KeyChange
gone v = record { old = v; new = None }

abbrev pub to_absent : Names → ChangeSet
to_absent n = each gone n

abbrev pub shown : Action → ChangeSet
shown (Keep u a) = u
shown (Ins x) = from_absent x.notes
shown (Del c n) = to_absent n

abbrev pub shown_after : ChangeSet → List Action → ChangeSet
shown_after u [] = u
shown_after u (a ∷ acts) = shown_after (shown a) acts

abbrev pub shown_last : List Action → ChangeSet
shown_last acts = shown_after none_running acts

abbrev pub kept_component : AttributeChange → Component
kept_component Unchanged = Retain 1
kept_component (Update c) = UpdateAttributes (change_list c)
kept_component (Replace old new) = ReplaceAttributes old new

abbrev pub inserted_component : Content → Component
inserted_component (Character c) = Characters (c ∷ [])
inserted_component (Start kind attributes) = ElementStart kind attributes
inserted_component End = ElementEnd

abbrev pub deleted_component : Content → Component
deleted_component (Character c) = DeleteCharacters (c ∷ [])
deleted_component (Start kind attributes) = DeleteElementStart kind attributes
deleted_component End = DeleteElementEnd

abbrev pub component_of : Action → Component
component_of (Keep u a) = kept_component a
component_of (Ins x) = inserted_component x.content
component_of (Del c n) = deleted_component c

-- ---- neighbours

abbrev pub in_front : Component → List Component → List Component
in_front (Retain m) (Retain n ∷ cs) = Retain (m + n) ∷ cs
in_front (Characters s) (Characters t ∷ cs) = Characters (s ++ t) ∷ cs
in_front (DeleteCharacters s) (DeleteCharacters t ∷ cs) = DeleteCharacters (s ++ t) ∷ cs
in_front c cs = c ∷ cs

abbrev pub step : ChangeSet → ChangeSet → List Component
step u w = cond (same_changes u w) [] (AnnotationBoundary (boundary_between u w) ∷ [])

-- ---- all actions

abbrev pub normal_from : ChangeSet → List Action → List Component
normal_from u [] = step u none_running
normal_from u (a ∷ acts) = step u (shown a) ++ in_front (component_of a) (normal_from (shown a) acts)

abbrev pub normal_form : List Action → List Component
normal_form acts = normal_from none_running acts

-- ---- what has a spelling

abbrev pub IsWritable : Action → Type 0
IsWritable (Keep u Unchanged) = AreTexts u
IsWritable (Keep u (Update c)) = AreTexts u × AreTexts c × (c ≢ none_running)
IsWritable (Keep u (Replace old new)) = AreTexts u
IsWritable (Ins x) = AreTexts (from_absent x.notes)
IsWritable (Del c n) = AreTexts (to_absent n)

abbrev pub AreWritable : List Action → Type 0
AreWritable [] = Unit {0}
AreWritable (a ∷ acts) = IsWritable a × AreWritable acts
