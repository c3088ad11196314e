-- Where a cursor stands in an operation.
--     Way                   the changes that run, the actions that are left of a component, and those after it
--     left w                all actions that are left
--     IsSound u c           where u runs the component isn't empty, an update's keys ascend, and a boundary fits
--     IsSoundFrom u cs      each of these components is sound in turn, the first where u runs
--     head_text c           the characters of a component
--     way u cs used         where u runs, `used` actions of the first of these components are passed
--     IsPast cs             the first component isn't a boundary
--     IsHead u cs used len text     fewer are passed than there are, which is len; and these are the first's characters
use Rattle.std.specs.Prelude.{◌≡◌, ℕ, ◌<◌, List, [], ◌∷◌, ◌++◌, length, drop, refl}
use Rattle.std.specs.Coded.{Coded, code_by, coded_list, coded×}
use Rattle.doc_items.specs.Changes.{ChangeSet, IsAscending, Fits}
use Rattle.doc_op.specs.declared.component.Component.{Component}
use Rattle.doc_op.specs.declared.component.Component.TheVariants.{Characters, DeleteCharacters, UpdateAttributes, AnnotationBoundary}
use Rattle.doc_op.specs.Actions.{Action, component_actions, running_after, actions_from}
use Rattle.change_view.specs.Codes.{change_set_code}
use Rattle.doc_op.specs.Codes.{action_code}
use Rattle.doc_op.specs.Refusals.{component_len}

pub record Way : Type 0 where
  pub under : ChangeSet
  pub front : List Action
  pub behind : List Action

abbrev pub way_code : Coded Way
way_code = code_by (ChangeSet × (List Action × List Action))
    (coded× change_set_code (coded× (coded_list action_code) (coded_list action_code))) (λ w. (w.under, (w.front, w.behind)))
    (λ p. record { under = p.0; front = p.1.0; behind = p.1.1 }) (λ _. refl)

abbrev pub left : Way → List Action
left w = w.front ++ w.behind

-- ---- an operation that can be walked

abbrev pub IsFitAt : ChangeSet → Component → Type 0
IsFitAt u (UpdateAttributes changes) = IsAscending changes
IsFitAt u (AnnotationBoundary b) = Fits u b
IsFitAt u c = Unit {0}

abbrev pub IsSound : ChangeSet → Component → Type 0
IsSound u c = (0 < component_len c) × IsFitAt u c

abbrev pub IsSoundFrom : ChangeSet → List Component → Type 0
IsSoundFrom u [] = Unit {0}
IsSoundFrom u (c ∷ cs) = IsSound u c × IsSoundFrom (running_after u c) cs

-- ---- the place

abbrev pub head_text : Component → List ℕ
head_text (Characters text) = text
head_text (DeleteCharacters text) = text
head_text c = []

abbrev pub way : ChangeSet → List Component → ℕ → Way
way u [] used = record { under = u; front = []; behind = [] }
way u (c ∷ cs) used = record { under = u; front = drop used (component_actions u c); behind = actions_from (running_after u c) cs }

abbrev pub IsHead : ChangeSet → List Component → ℕ → ℕ → List ℕ → Type 0
IsHead u [] used len text = Unit {0}
IsHead u (c ∷ cs) used len text = (used < len) × (len ≡ length (component_actions u c)) × (text ≡ head_text c)

-- no boundary is the first
abbrev pub IsPast : List Component → Type 0
IsPast [] = Unit {0}
IsPast (AnnotationBoundary b ∷ cs) = ⊥
IsPast (c ∷ cs) = Unit {0}
