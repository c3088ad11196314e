-- Items that stay, before an edit and after it.
use Rattle.std.proofs.Common.{◌≡◌, ◌≤◌, ℕ, zero, suc, cond, true, List, [], ◌∷◌, ◌++◌, length, take, drop, refl, ap, ◌∙◌, arith, Option, None, Some, option_map}
use Rattle.std.proofs.lemmas.Bool.{and_from}
use Rattle.doc_items.specs.Changes.{none_running}
use Rattle.doc_items.specs.declared.item.Content.{Content}
use Rattle.doc_items.specs.declared.item.Content.TheVariants.{Character, Start, End}
use Rattle.doc_items.specs.declared.item.Item.{Item}
use Rattle.doc_items.proofs.ChangeSets.{put_none, agrees_none}
use Rattle.doc_op.specs.Actions.{Action, Unchanged}
use Rattle.doc_op.specs.Apply.{content_agrees, put_content, keeps, kept, apply}
use Rattle.doc_op.specs.Structure.{Structured}
use Rattle.op_build.specs.Plans.{retained}

pub content_same : (c : Content) → put_content Unchanged c ≡ c
content_same (Character x) = refl
content_same (Start kind m) = refl
content_same End = refl

pub content_fits : (c : Content) → content_agrees Unchanged c ≡ true
content_fits (Character x) = refl
content_fits (Start kind m) = refl
content_fits End = refl

stays : (i : Item) → kept none_running Unchanged i ≡ i
stays i = λ k. record { content = content_same i.content k; notes = put_none i.notes k }

may_stay : (i : Item) → keeps none_running Unchanged i ≡ true
may_stay i = and_from _ _ (agrees_none i.notes) (content_fits i.content)

one_stays : (i : Item) (o : Option (List Item)) (out : List Item) → o ≡ Some out → cond (keeps none_running Unchanged i) (option_map (λ xs. kept none_running Unchanged i ∷ xs) o) None ≡ Some (i ∷ out)
one_stays i o out e =
    ap (λ b. cond b (option_map (λ xs. kept none_running Unchanged i ∷ xs) o) None) (may_stay i)
    ∙ ap (option_map (λ xs. kept none_running Unchanged i ∷ xs)) e
    ∙ ap (λ x. Some (x ∷ out)) (stays i)

pub all_stay : (items : List Item) → apply (retained (length items)) items ≡ Some items
all_stay [] = refl
all_stay (i ∷ items) = one_stays i (apply (retained (length items)) items) items (all_stay items)

pub front_stays : (n : ℕ) (acts : List Action) (items out : List Item) → n ≤ length items → apply acts (drop n items) ≡ Some out → apply (retained n ++ acts) items ≡ Some (take n items ++ out)
front_stays zero acts items out h e = e
front_stays (suc n) acts [] out h e = absurd (omega (arith, h))
front_stays (suc n) acts (i ∷ items) out h e = one_stays i (apply (retained n ++ acts) items) (take n items ++ out) (front_stays n acts items out (omega (arith, h)) e)

pub kept_structured : (n : ℕ) (rest : List Action) → Structured rest → Structured (retained n ++ rest)
kept_structured zero rest h = h
kept_structured (suc n) rest h = (refl, refl, kept_structured n rest h)

pub retained_structured : (n : ℕ) → Structured (retained n)
retained_structured zero = (refl, refl)
retained_structured (suc n) = (refl, refl, retained_structured n)
