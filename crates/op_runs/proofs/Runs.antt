-- Runs: the first of them, and contents beside others.
--     firsts                the first items of those that stay
--     commons               contents that have none in common, and common_le: no more than there are
--     all_unchanged, put_all_unchanged     contents that stay as they are
--     Unlike, text_fails    a change that no character agrees with
--     text_disagrees        so is that of a component
use Rattle.std.proofs.Common.{◌≡◌, ℕ, suc, ◌≤◌, Bool, true, false, cond, ◌&&◌, Bor, List, [], ◌∷◌, take, length, map, replicate, refl, sym, ap, subst, ◌∙◌, arith}
use Rattle.std.proofs.lemmas.List.{take-map, take-replicate, length-map, length-replicate, length-take-le}
use Rattle.std.proofs.lemmas.Bool.{and_from}
use Rattle.doc_items.specs.Maps.{Key, Map}
use Rattle.doc_items.specs.declared.item.Content.{Content}
use Rattle.doc_items.specs.declared.item.Content.TheVariants.{Character, Start, End}
use Rattle.doc_op.specs.Actions.{AttributeChange, Unchanged, Action}
use Rattle.doc_op.specs.Runs.{contents, part_change}
use Rattle.doc_op.specs.declared.run.AttributePart.{AttributePart}
use Rattle.doc_op.specs.declared.run.AttributePart.TheVariants.{Update as UpdatePart, Replace as ReplacePart}
use Rattle.doc_op.specs.declared.run.ContentRun.{ContentRun}
use Rattle.doc_op.specs.declared.run.ContentRun.TheVariants.{Characters as CharactersRun}
use Rattle.doc_op.specs.Apply.{content_agrees, put_content, same_content}
use Rattle.op_runs.specs.Contents.{common, all_agree}

pub take-kept : (k n : ℕ) (a : Action) → k ≤ n → replicate k a ≡ take k (replicate n a)
take-kept k n a h = sym (take-replicate k n a h)

pub ruleset firsts = (take-kept, length-take-le)

-- ---- common contents

common_mixed : (t : List ℕ) (e : Content) → ((c : ℕ) → same_content (Character c) e ≡ false) → 0 ≡ common (map Character t) (e ∷ [])
common_mixed [] e h = refl
common_mixed (c ∷ t) e h = λ i. cond (sym (h c) i) (suc (common (map Character t) [])) 0

pub common_start : (t : List ℕ) (k : List ℕ) (m : Map Key) → 0 ≡ common (map Character t) (Start k m ∷ [])
common_start t k m = common_mixed t (Start k m) (λ c. refl)

pub common_end : (t : List ℕ) → 0 ≡ common (map Character t) (End ∷ [])
common_end t = common_mixed t End (λ c. refl)

pub start_common : (t : List ℕ) (k : List ℕ) (m : Map Key) → 0 ≡ common (Start k m ∷ []) (map Character t)
start_common [] k m = refl
start_common (c ∷ t) k m = refl

pub end_common : (t : List ℕ) → 0 ≡ common (End ∷ []) (map Character t)
end_common [] = refl
end_common (c ∷ t) = refl

pub ruleset commons = (common_start, common_end, start_common, end_common)

pub common_le : (cs es : List Content) → common cs es ≤ length cs
common_le [] es = omega arith
common_le (c ∷ cs) [] = omega arith
common_le (c ∷ cs) (e ∷ es) = elim (same_content c e) as (λ t. cond t (suc (common cs es)) 0 ≤ suc (length cs)) [ true ↦ omega (arith, common_le cs es) | false ↦ omega arith ]

-- ---- items that stay as they are

pub agrees_unchanged : (c : Content) → content_agrees Unchanged c ≡ true
agrees_unchanged (Character x) = refl
agrees_unchanged (Start kind m) = refl
agrees_unchanged End = refl

pub put_unchanged : (c : Content) → put_content Unchanged c ≡ c
put_unchanged (Character x) = refl
put_unchanged (Start kind m) = refl
put_unchanged End = refl

pub all_unchanged : (cs : List Content) → all_agree Unchanged cs ≡ true
all_unchanged [] = refl
all_unchanged (c ∷ cs) = and_from _ _ (agrees_unchanged c) (all_unchanged cs)

pub put_all_unchanged : (cs : List Content) → map (put_content Unchanged) cs ≡ cs
put_all_unchanged [] = refl
put_all_unchanged (c ∷ cs) = λ i. put_unchanged c i ∷ put_all_unchanged cs i

-- ---- a character's attributes don't change

-- a change that is none of a character's
pub record Unlike (a : AttributeChange) : Type 0 where
  pub is : (c : ℕ) → content_agrees a (Character c) ≡ false

pub text_fails : (a : AttributeChange) (run : ContentRun) (text : Bor (List ℕ)) (m : Bool) → Unlike a → run ≡ CharactersRun text → length (contents run) ≡ 1 → (all_agree a (contents run) && m) ≡ false
text_fails a run text m unlike e one =
    subst (λ r. (all_agree a (contents r) && m) ≡ false) (sym e) (by text.now (sym (ap (λ r. length (contents r)) e) ∙ one))
  where
    by : (t : List ℕ) → length (map Character t) ≡ 1 → (all_agree a (map Character t) && m) ≡ false
    by [] one = absurd (omega (arith, one))
    by (c ∷ t) one = ap (λ x. (x && all_agree a (map Character t)) && m) (unlike.is c)

pub unlike_part : (p : AttributePart) → Unlike (part_change p)
unlike_part (UpdatePart cs) = record { is = λ c. refl }
unlike_part (ReplacePart old new) = record { is = λ c. refl }

pub text_disagrees : (part : AttributePart) (run : ContentRun) (text : Bor (List ℕ)) (m : Bool) → run ≡ CharactersRun text → length (contents run) ≡ 1 → (all_agree (part_change part) (contents run) && m) ≡ false
text_disagrees part run text m e one = text_fails (part_change part) run text m (unlike_part part) e one
