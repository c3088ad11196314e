-- What the steps of a walk over a document keep, whatever actions follow.
--     takes a i               an action that takes an item takes this one
--     left_by a i             what it leaves of the item
--     IsNoted u last          what was made of the annotations of the item kept last, where u runs
--     demand_action u d       the action that a demand stands for, where the changes u run
--     content_meets d c       a content meets a demand
--     IsFit                   the keys of a demand's, of a component's update ascend
--     IsPassable u c          a boundary fits where u runs
--     Same p items a q left b     after a at place p of a document stands what stands after b at place q
--     Stops e p items a       the actions are refused there
--     Gives items made a left more b     what the actions a make of the items, the actions b make of the items left, which
--                             are the last of them
use Rattle.std.specs.Prelude.{◌≡◌, ◌≢◌, ◌+◌, ℕ, List, [], ◌∷◌, ◌++◌, length, Bool, true, is_some, Option, None, Some}
use Rattle.doc_items.specs.Changes.{ChangeSet, change_set, put, IsAscending, Fits}
use Rattle.doc_items.specs.declared.item.Content.{Content}
use Rattle.doc_items.specs.declared.item.Content.TheVariants.{Character, Start, End}
use Rattle.doc_items.specs.declared.item.Item.{Item}
use Rattle.doc_op.specs.declared.component.Component.{Component}
use Rattle.doc_op.specs.declared.component.Component.TheVariants.{UpdateAttributes, AnnotationBoundary}
use Rattle.doc_op.specs.Actions.{Action, Keep, Ins, Del, Update, Replace, keep, deletion}
use Rattle.doc_op.specs.Lengths.{input_len}
use Rattle.doc_op.specs.Apply.{content_agrees, same_content, keeps, kept, fits, apply, mismatch_from}
use Rattle.op_validity.specs.Sources.{IsTail}
use Rattle.op_validity.specs.declared.demand.Demand.{Demand}
use Rattle.op_validity.specs.declared.demand.Demand.TheVariants.{Keep as KeepOne, Update as UpdateOne, Replace as ReplaceOne, Character as DeleteCharacter, Start as DeleteStart, End as DeleteEnd}
use Rattle.op_validity.specs.declared.fault.CheckFault.{CheckFault}
use Rattle.op_validity.specs.declared.noted.Noted.{Noted}
use Rattle.op_validity.specs.declared.fault.CheckFault.TheVariants.{NotStructured, Mismatch, WrongLength, Memory}

abbrev pub takes : Action → Item → Bool
takes (Keep u a) i = keeps u a i
takes (Ins x) i = true
takes (Del c n) i = fits c n i

-- the item that is left
abbrev pub left_by : Action → Item → Option Item
left_by (Keep u a) i = Some (kept u a i)
left_by (Ins x) i = None
left_by (Del c n) i = None

-- what was made of the last item's annotations, where u runs
abbrev pub IsNoted : ChangeSet → Option Noted → Type 0
IsNoted u None = Unit {0}
IsNoted u (Some n) = n.after ≡ put u n.before

-- these items, and then what is left
abbrev pub with_left : List Item → Option Item → List Item
with_left made None = made
with_left made (Some i) = made ++ i ∷ []

abbrev pub demand_action : ChangeSet → Demand → Action
demand_action u KeepOne = keep u
demand_action u (UpdateOne changes) = Keep u (Update (change_set changes.now))
demand_action u (ReplaceOne old new) = Keep u (Replace old.now new.now)
demand_action u (DeleteCharacter c) = deletion u (Character c)
demand_action u (DeleteStart kind attributes) = deletion u (Start kind.now attributes.now)
demand_action u DeleteEnd = deletion u End

abbrev pub content_meets : Demand → Content → Bool
content_meets KeepOne c = true
content_meets (UpdateOne changes) c = content_agrees (Update (change_set changes.now)) c
content_meets (ReplaceOne old new) c = content_agrees (Replace old.now new.now) c
content_meets (DeleteCharacter x) c = same_content (Character x) c
content_meets (DeleteStart kind attributes) c = same_content (Start kind.now attributes.now) c
content_meets DeleteEnd c = same_content End c

abbrev pub IsFitDemand : Demand → Type 0
IsFitDemand (UpdateOne changes) = IsAscending changes.now
IsFitDemand d = Unit {0}

abbrev pub IsFit : Component → Type 0
IsFit (UpdateAttributes changes) = IsAscending changes
IsFit c = Unit {0}

-- a track where u runs can go past the component
abbrev pub IsPassable : ChangeSet → Component → Type 0
IsPassable u (AnnotationBoundary b) = Fits u b
IsPassable u c = Unit {0}

pub record Same (p : ℕ) (items : List Item) (a : List Action) (q : ℕ) (left : List Item) (b : List Action) : Type 0 where
  pub applies : is_some (apply a items) ≡ is_some (apply b left)
  pub mismatch : mismatch_from p a items ≡ mismatch_from q b left
  pub lengths : input_len a + length left ≡ input_len b + length items

abbrev pub Stops : CheckFault → ℕ → List Item → List Action → Type 0
Stops (NotStructured n) p items a = ⊥
Stops (Mismatch n) p items a = mismatch_from p a items ≡ Some n
Stops WrongLength p items a = (mismatch_from p a items ≡ None) × (input_len a ≢ length items)
Stops Memory p items a = Unit {0}

pub record Gives (items made : List Item) (a : List Action) (left more : List Item) (b : List Action) : Type 0 where
  pub tail : IsTail left items
  pub run : (out : List Item) → apply a items ≡ Some out → (rest : List Item) × (apply b left ≡ Some rest) × (made ++ out ≡ more ++ rest)
