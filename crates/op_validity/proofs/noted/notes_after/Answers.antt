use Rattle.std.proofs.Common.{◌≡◌, ◌==◌, true, arith, subst, List, [], ◌∷◌, length, refl, sym, ap, ◌∙◌}
use Rattle.std.proofs.lemmas.Bool.{eqb-true}
use Rattle.std.proofs.lemmas.Result.{IfOk-weaker}
use Rattle.doc_items.specs.Changes.{change_set, put}
use Rattle.doc_items.proofs.ChangeSets.{put_none}
use Rattle.doc_items.proofs.Maps.{same_values-is}
use Rattle.op_validity.specs.Walks.{IsNoted}
use Rattle.op_validity.proofs.noted.notes_after.Goals as goal

nothing : {A : Type 0} (xs : List A) → (length xs == 0) ≡ true → xs ≡ []
nothing [] h = refl
nothing (x ∷ xs) h = let none = eqb-true (length (x ∷ xs)) 0 h in absurd (omega (arith, none))

pub returns-then-is_empty-clause-value : goal.returns-then-is_empty-clause-value
returns-then-is_empty-clause-value c =
    let none = sym c.as_slice.ensures ∙ nothing c.as_slice.result.now (sym c.is_empty.ensures ∙ c.if-is_empty.true) in
    IfOk-weaker c.copy.result _ _ (λ m h. h ∙ sym (put_none c.args.notes.now) ∙ ap (λ cs. put (change_set cs) c.args.notes.now) (sym none)) c.copy.ensures

pub returns-then-same-clause-value : goal.returns-then-same-clause-value
returns-then-same-clause-value c =
    let made = subst (IsNoted (change_set c.args.running.now)) c.in-Some.is c.requires in
    let same = same_values-is _ _ (sym c.same.ensures ∙ c.if-same.true) in
    IfOk-weaker c.copy-then-same.result _ _ (λ m h. h ∙ made ∙ ap (put (change_set c.args.running.now)) same) c.copy-then-same.ensures
