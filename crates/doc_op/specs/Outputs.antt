-- An output in normal form whose last component may still grow.
--     shut o           the last component, as it would be if it didn't grow
--     onto o cs        the last component in front of those after it
--     open_component o      the component that is open
--     more_component m     the component that is to come
--     joins o c        a component goes on with the open one
--     grown o c        both as one
--     open_len o       the length of what is open
--     is_lone c        the component joins no other, and is no boundary
--     IsSpelling w c   the normal form writes the component for its actions where w runs over them, and w runs over the last of them
--     IsLone w c       a component that joins no other, which the normal form writes where w runs
--     IsSettled        the components with the last, and a boundary to other changes
--     shown_changes s  the changes that are to run over a run
--     IsReady s u      where u ran last: they are listed, or are those but at the keys that are given
--     IsTurnOf u b     the boundary names a key and fits where u runs
--     IsOpenNormal     an output of these actions: the components that are done, the open one, and the changes that run
use Rattle.std.specs.Prelude.{◌≡◌, ℕ, ◌+◌, ◌<◌, ◌≤◌, List, [], ◌∷◌, ◌++◌, Bool, true, false, Option, None, Some}
use Rattle.doc_items.specs.Limits.{max_count}
use Rattle.doc_items.specs.Changes.{ChangeSet, Fits}
use Rattle.doc_items.specs.declared.change.Boundary.{Boundary}
use Rattle.doc_op.specs.declared.component.Component.{Component}
use Rattle.doc_op.specs.declared.component.Component.TheVariants.{Retain, Characters, DeleteCharacters, AnnotationBoundary}
use Rattle.doc_op.specs.declared.open.Open.{Open}
use Rattle.doc_op.specs.declared.open.Open.TheVariants.{Nothing as OpenNothing, Retain as OpenRetain, Characters as OpenCharacters, DeleteCharacters as OpenDeletion}
use Rattle.doc_op.specs.declared.open.More.{More}
use Rattle.doc_op.specs.declared.open.More.TheVariants.{Retain as MoreRetain, Characters as MoreCharacters, DeleteCharacters as MoreDeletion}
use Rattle.doc_op.specs.Actions.{Action, running, actions, component_actions}
use Rattle.doc_op.specs.Cursors.{IsFitAt}
use Rattle.doc_op.specs.Lengths.{input_len, output_len}
use Rattle.doc_op.specs.Refusals.{component_len}
use Rattle.doc_op.specs.Normal.{in_front, step, shown_after, shown_last, normal_from, normal_form}
use Rattle.doc_op.specs.declared.shown_changes.Shown.{Shown}
use Rattle.doc_op.specs.declared.shown_changes.Shown.TheVariants.{Listed, Joint}
use Rattle.change_table.specs.Keys.{AgreeBut}
use Rattle.change_table.specs.Joints.{together}

abbrev pub open_component : Open → Option Component
open_component OpenNothing = None
open_component (OpenRetain n) = Some (Retain n)
open_component (OpenCharacters text) = Some (Characters text.items)
open_component (OpenDeletion text) = Some (DeleteCharacters text.items)

abbrev pub more_component : More → Component
more_component (MoreRetain n) = Retain n
more_component (MoreCharacters text) = Characters text.now
more_component (MoreDeletion text) = DeleteCharacters text.now

abbrev pub joins : Option Component → Component → Bool
joins (Some (Retain m)) (Retain n) = true
joins (Some (Characters s)) (Characters t) = true
joins (Some (DeleteCharacters s)) (DeleteCharacters t) = true
joins o c = false

abbrev pub grown : Option Component → Component → Option Component
grown (Some (Retain m)) (Retain n) = Some (Retain (m + n))
grown (Some (Characters s)) (Characters t) = Some (Characters (s ++ t))
grown (Some (DeleteCharacters s)) (DeleteCharacters t) = Some (DeleteCharacters (s ++ t))
grown o c = Some c

abbrev pub is_lone : Component → Bool
is_lone (Retain n) = false
is_lone (Characters text) = false
is_lone (DeleteCharacters text) = false
is_lone (AnnotationBoundary b) = false
is_lone c = true

abbrev pub shut : Option Component → List Component
shut None = []
shut (Some c) = c ∷ []

abbrev pub onto : Option Component → List Component → List Component
onto None cs = cs
onto (Some c) cs = in_front c cs

abbrev pub open_len : Option Component → ℕ
open_len None = 0
open_len (Some c) = component_len c

-- what is open isn't empty
abbrev pub IsFull : Option Component → Type 0
IsFull None = Unit {0}
IsFull (Some c) = 0 < component_len c

pub record IsSpelling (w : ChangeSet) (c : Component) : Type 0 where
  pub spelled : (u : ChangeSet) (rest : List Action) → normal_from u (component_actions w c ++ rest) ≡ step u w
      ++ in_front c (normal_from w rest)
  pub shown : (u : ChangeSet) → shown_after u (component_actions w c) ≡ w

-- a component that joins no other, which the normal form writes where w runs
pub record IsLone (w : ChangeSet) (c : Component) : Type 0 where
  pub lone : is_lone c ≡ true
  pub some : 0 < component_len c
  pub fit : IsFitAt w c
  pub spelled : IsSpelling w c

abbrev pub shown_changes : Shown → ChangeSet
shown_changes (Listed changes) = changes.now
shown_changes (Joint joint keys) = together joint

abbrev pub IsReady : Shown → ChangeSet → Type 0
IsReady (Listed changes) u = Unit {0}
IsReady (Joint joint keys) u = AgreeBut keys.now u (together joint)

abbrev pub IsTurnOf : ChangeSet → Boundary → Type 0
IsTurnOf u b = (0 < component_len (AnnotationBoundary b)) × Fits u b

pub record IsOpenNormal (acts : List Action) (done : List Component) (open_one : Option Component) (u : ChangeSet) : Type 0 where
  pub normal : (rest : List Action) → normal_form (acts ++ rest) ≡ done ++ onto open_one (normal_from u rest)
  pub runs : running done ≡ u
  pub last : shown_last acts ≡ u
  pub full : IsFull open_one
  pub input : input_len acts ≤ max_count
  pub output : output_len acts ≤ max_count

-- the last component is shut, and w runs after it
pub record IsSettled (done : List Component) (o : Option Component) (u w : ChangeSet) (settled : List Component) : Type 0 where
  pub value : settled ≡ done ++ shut o ++ step u w
  pub runs : running settled ≡ w
  pub acts : actions settled ≡ actions (done ++ shut o)
