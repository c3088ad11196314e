-- The way through the components of an operation that a builder took.
--     fit_at, passable_at     what a builder took can be walked over and gone past
--     actions_next, running_next     one component further
--     valid_parts, valid_is     structured, and applies
--     walked                    after the last component nothing is left to be made
use Rattle.std.proofs.Common.{◌≡◌, ℕ, ◌+◌, ◌<◌, List, [], ◌∷◌, ◌++◌, length, take, drop, get_or, drop-cons, add-one, refl, sym, ap, ◌∙◌, true≢false, Bool, true, false, cond, Option, Some, None, IsSome, is_none}
use Rattle.std.proofs.Math.Seq.{take-suc}
use Rattle.doc_op.specs.declared.component.Component.{Component}
use Rattle.doc_op.specs.declared.component.Component.TheVariants.{Retain, Characters, ElementStart, ElementEnd, DeleteCharacters, DeleteElementStart, DeleteElementEnd, ReplaceAttributes, UpdateAttributes, AnnotationBoundary}
use Rattle.doc_items.specs.declared.item.Item.{Item}
use Rattle.doc_op.specs.Actions.{component_actions, running_after, running, actions_from, actions}
use Rattle.doc_op.specs.Structure.{first_break}
use Rattle.doc_op.specs.Apply.{apply, valid}
use Rattle.doc_op.specs.Refusals.{refusal, IsBuilt}
use Rattle.doc_op.proofs.Built.{built_at, ascending_of_update, fits_of_boundary}
use Rattle.doc_op.proofs.Lengths.{running-add}
use Rattle.std.proofs.Common.{◌≤◌, subst}
use Rattle.std.proofs.lemmas.List.{drop_all}
use Rattle.doc_items.specs.Changes.{ChangeSet}
use Rattle.doc_op.specs.Actions.{Action}
use Rattle.op_validity.specs.Edits.{MakesAll}
use Rattle.op_validity.specs.declared.edits.Edits.{Edits}
use Rattle.op_validity.specs.Walks.{IsFit, IsPassable}

fit_of : (cs : List Component) (c : Component) → refusal cs c ≡ None → IsFit c
fit_of cs (UpdateAttributes changes) e = ascending_of_update cs changes e
fit_of cs (Retain n) e = tt
fit_of cs (Characters text) e = tt
fit_of cs (ElementStart kind attributes) e = tt
fit_of cs ElementEnd e = tt
fit_of cs (DeleteCharacters text) e = tt
fit_of cs (DeleteElementStart kind attributes) e = tt
fit_of cs DeleteElementEnd e = tt
fit_of cs (ReplaceAttributes old new) e = tt
fit_of cs (AnnotationBoundary b) e = tt

passable_of : (cs : List Component) (c : Component) → refusal cs c ≡ None → IsPassable (running cs) c
passable_of cs (AnnotationBoundary b) e = fits_of_boundary cs b e
passable_of cs (Retain n) e = tt
passable_of cs (Characters text) e = tt
passable_of cs (ElementStart kind attributes) e = tt
passable_of cs ElementEnd e = tt
passable_of cs (DeleteCharacters text) e = tt
passable_of cs (DeleteElementStart kind attributes) e = tt
passable_of cs DeleteElementEnd e = tt
passable_of cs (ReplaceAttributes old new) e = tt
passable_of cs (UpdateAttributes changes) e = tt

pub fit_at : (cs : List Component) (i : ℕ) (c : Component) → IsBuilt cs → i < length cs → c ≡ get_or cs i c → IsFit c
fit_at cs i c h lt is = fit_of (take i cs) c (built_at cs i c h lt is)

pub passable_at : (cs : List Component) (i : ℕ) (c : Component) → IsBuilt cs → i < length cs → c ≡ get_or cs i c → IsPassable (running (take i cs)) c
passable_at cs i c h lt is = passable_of (take i cs) c (built_at cs i c h lt is)

pub running_next : (cs : List Component) (i : ℕ) (c : Component) → i < length cs → c ≡ get_or cs i c → running_after (running (take i cs)) c ≡ running (take (i + 1) cs)
running_next cs i c h is = sym (ap running (ap (λ k. take k cs) (add-one i) ∙ take-suc cs i c h ∙ ap (λ x. take i cs ++ x ∷ []) (sym is)) ∙ running-add (take i cs) c)

pub actions_next : (cs : List Component) (i : ℕ) (c : Component) → i < length cs → c ≡ get_or cs i c
    → actions_from (running (take i cs)) (drop i cs) ≡ component_actions (running (take i cs)) c ++ actions_from (running (take (i + 1) cs)) (drop (i + 1) cs)
actions_next cs i c h is =
    let next : drop i cs ≡ c ∷ drop (i + 1) cs = drop-cons cs i c h ∙ (λ k. sym is k ∷ drop (sym (add-one i) k) cs) in
    ap (actions_from (running (take i cs))) next
    ∙ ap (λ u. component_actions (running (take i cs)) c ++ actions_from u (drop (i + 1) cs)) (running_next cs i c h is)

-- ---- what is valid

some_cond : {X : Type 0} (b : Bool) (o : Option X) → IsSome (cond b o None) → (x : X) × (b ≡ true) × (o ≡ Some x)
some_cond true (Some x) h = (x, refl, refl)
some_cond true None h = absurd (true≢false (sym h))
some_cond false o h = absurd (true≢false (sym h))

no_some : {X : Type 0} (o : Option X) → is_none o ≡ true → o ≡ None
no_some None e = refl
no_some (Some x) e = absurd (true≢false (sym e))

pub valid_parts : (cs : List Component) (items : List Item) → IsSome (valid cs items) → (out : List Item) × (first_break cs ≡ None) × (apply (actions cs) items ≡ Some out)
valid_parts cs items h = let p = some_cond (is_none (first_break cs)) (apply (actions cs) items) h in (p.0, no_some (first_break cs) p.1, p.2)

pub valid_is : (cs : List Component) (items out : List Item) → first_break cs ≡ None → apply (actions cs) items ≡ Some out → valid cs items ≡ Some out
valid_is cs items out e f = ap (λ (o : Option ℕ). cond (is_none o) (apply (actions cs) items) None) e ∙ f

pub walked : (all : List Action) (e : Edits) (u : ChangeSet) (i : ℕ) (cs : List Component) → length cs ≤ i → MakesAll all e (actions_from u (drop i cs)) → MakesAll all e []
walked all e u i cs h = subst (λ (z : List Component). MakesAll all e (actions_from u z)) (drop_all i cs h)
