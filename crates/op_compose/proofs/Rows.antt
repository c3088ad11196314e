-- What the composition makes of runs, whatever follows.
--     deleted_first, inserted_second     a deletion of the first operation, an insertion of the second
--     keeps_*, inserted_keep_*, keep_deleted_*, inserted_deleted_*     both operations at items that the first gives: they meet, or don't agree
use Rattle.std.proofs.Common.{◌≡◌, ℕ, zero, suc, ◌+◌, ◌<◌, Bool, true, false, cond, ◌&&◌, List, [], ◌∷◌, ◌++◌, length, map, replicate, refl, sym, ap, ◌∙◌, arith, true≢false, Err, Option, None, Some}
use Rattle.std.proofs.lemmas.Bool.{and_parts, and_from}
use Rattle.doc_items.specs.Changes.{ChangeSet}
use Rattle.doc_items.specs.declared.item.Content.{Content}
use Rattle.change_view.specs.declared.rule.Rule.TheVariants.{Second}
use Rattle.change_view.specs.declared.rule.Test.TheVariants.{NewIsOld, OldIsThere}
use Rattle.change_view.specs.Sets.{joined, passes}
use Rattle.doc_op.specs.Actions.{AttributeChange, Keep, Ins, Del, insertion, deletion, new_values, old_values}
use Rattle.doc_op.specs.Apply.{content_agrees, put_content, same_content, named}
use Rattle.doc_items.specs.Maps.{matches}
use Rattle.doc_op.specs.declared.run.AttributePart.{AttributePart}
use Rattle.op_compose.specs.Chains.{follows, then, attributes_back, attributes_follow, attributes_then}
use Rattle.op_compose.specs.Compose.{ahead, compose}
use Rattle.op_runs.specs.Kept.{kept_change, IsFitPartOf}
use Rattle.op_runs.specs.Contents.{common, all_agree}
use Rattle.op_compose.proofs.Fronts.{when, unless, Meets, Stops, MeetsSecond, meets_none, one_more, ahead_none}
use Rattle.op_compose.proofs.Named.{named_there, agrees_there, put_new, named_follows, names_old}
use Rattle.op_runs.proofs.Runs.{all_unchanged}

-- ---- one operation alone

pub deleted_first : (cs : List Content) (u : ChangeSet) → Meets (map (deletion u) cs) [] (map (deletion u) cs) 0
deleted_first [] u = meets_none
deleted_first (c ∷ cs) u = record { is = λ f s. one_more (deletion u c ∷ []) (map (deletion u) cs) 0 0 0 (compose f s) _ ((deleted_first cs u).is f s) refl }

pub inserted_second : (cs : List Content) (u : ChangeSet) → MeetsSecond (map (insertion u) cs) (map (insertion u) cs)
inserted_second [] u = record { is = λ f s nd. sym (ahead_none (compose f s)) }
inserted_second (c ∷ cs) u = record { is = λ f s nd. nd _ (map (insertion u) cs ++ s) ∙ one_more (insertion u c ∷ []) (map (insertion u) cs) 0 0 0 (compose f s) _ ((inserted_second cs u).is f s nd) refl }

-- ---- both keep

pub keeps_meet : (n : ℕ) (w u : ChangeSet) (o a : AttributeChange) → (follows w u && attributes_follow o a) ≡ true
    → Meets (replicate n (Keep w o)) (replicate n (Keep u a)) (replicate n (Keep (then w u) (attributes_then o a))) n
keeps_meet zero w u o a h = meets_none
keeps_meet (suc n) w u o a h = record {
  is = λ f s.
      when (follows w u && attributes_follow o a) _ _ h
      ∙ one_more (Keep (then w u) (attributes_then o a) ∷ []) (replicate n (Keep (then w u) (attributes_then o a))) 1 n (suc n) (compose f s) _ ((keeps_meet n w u o a h).is f s) (omega arith);
}

pub keeps_stop : (n : ℕ) (w u : ChangeSet) (o a : AttributeChange) → 0 < n → (follows w u && attributes_follow o a) ≡ false → Stops (replicate n (Keep w o)) (replicate n (Keep u a)) 0
keeps_stop zero w u o a s h = absurd (omega (arith, s))
keeps_stop (suc n) w u o a s h = record { is = λ f t. unless (follows w u && attributes_follow o a) _ _ h }

-- ---- the first of some contents

-- only one content has attributes that change
rest_agrees : (n : ℕ) (part : Option AttributePart) (cs : List Content) → IsFitPartOf n part → n ≡ suc (length cs) → all_agree (kept_change part) cs ≡ true
rest_agrees n None cs h e = all_unchanged cs
rest_agrees n (Some p) [] h e = refl
rest_agrees n (Some p) (c ∷ cs) h e = let one = h.0 in absurd (omega (arith, one, e))

rest_agrees_back : (n : ℕ) (part : Option AttributePart) (cs : List Content) → IsFitPartOf n part → n ≡ suc (length cs) → all_agree (attributes_back (kept_change part)) cs ≡ true
rest_agrees_back n None cs h e = all_unchanged cs
rest_agrees_back n (Some p) [] h e = refl
rest_agrees_back n (Some p) (c ∷ cs) h e = let one = h.0 in absurd (omega (arith, one, e))

turned_and : (x r y : Bool) → r ≡ true → ((x && r) && y) ≡ false → (y && x) ≡ false
turned_and true true true e h = h
turned_and true true false e h = refl
turned_and false r true e h = refl
turned_and false r false e h = refl
turned_and true false y e h = absurd (true≢false (sym e))

same_and : (x r y : Bool) → r ≡ true → ((x && r) && y) ≡ false → (x && y) ≡ false
same_and true true y e h = h
same_and false r y e h = refl
same_and true false y e h = absurd (true≢false (sym e))

-- ---- the first inserts, the second keeps

inserted_after : (w u : ChangeSet) (a : AttributeChange) (c : Content) → Ins (record { content = put_content a c; notes = new_values (joined Second w u) }) ≡ insertion (joined Second w u) (put_content a c)
inserted_after w u a c = refl

pub inserted_keep_meet : (cs : List Content) (w u : ChangeSet) (a : AttributeChange) → (all_agree a cs && passes OldIsThere w u) ≡ true
    → Meets (map (insertion w) cs) (replicate (length cs) (Keep u a)) (map (insertion (joined Second w u)) (map (put_content a) cs)) (length cs)
inserted_keep_meet [] w u a h = meets_none
inserted_keep_meet (c ∷ cs) w u a h =
    let p = and_parts (content_agrees a c && all_agree a cs) (passes OldIsThere w u) h in
    let q = and_parts (content_agrees a c) (all_agree a cs) p.0 in
    record {
      is = λ f s.
          when _ _ _ (and_from _ _ (agrees_there w u ∙ p.1) q.0)
          ∙ ap (λ m. ahead (Ins (record { content = put_content a c; notes = m }) ∷ []) 1 (compose (map (insertion w) cs ++ f) (replicate (length cs) (Keep u a) ++ s))) (put_new w u)
          ∙ one_more (insertion (joined Second w u) (put_content a c) ∷ []) (map (insertion (joined Second w u)) (map (put_content a) cs)) 1 (length cs) (suc (length cs)) (compose f s) _
          ((inserted_keep_meet cs w u a (and_from _ _ q.1 p.1)).is f s) (omega arith);
    }

pub inserted_keep_stop : (n : ℕ) (cs : List Content) (w u : ChangeSet) (part : Option AttributePart) → n ≡ length cs → 0 < n → IsFitPartOf n part → (all_agree (kept_change part) cs && passes OldIsThere w u) ≡ false
    → Stops (map (insertion w) cs) (replicate (length cs) (Keep u (kept_change part))) 0
inserted_keep_stop n [] w u part e s fit h = absurd (omega (arith, s, e))
inserted_keep_stop n (c ∷ cs) w u part e s fit h = record {
  is = λ f t. unless _ _ _ (ap (λ b. b && content_agrees (kept_change part) c) (agrees_there w u)
      ∙ turned_and (content_agrees (kept_change part) c) (all_agree (kept_change part) cs) (passes OldIsThere w u) (rest_agrees n part cs fit e) h);
}

-- ---- the first keeps, the second deletes

pub keep_deleted_meet : (cs : List Content) (w u : ChangeSet) (o : AttributeChange) → (all_agree (attributes_back o) cs && passes NewIsOld w u) ≡ true
    → Meets (replicate (length cs) (Keep w o)) (map (deletion u) cs) (map (deletion (joined Second u w)) (map (put_content (attributes_back o)) cs)) (length cs)
keep_deleted_meet [] w u o h = meets_none
keep_deleted_meet (c ∷ cs) w u o h =
    let p = and_parts (content_agrees (attributes_back o) c && all_agree (attributes_back o) cs) (passes NewIsOld w u) h in
    let q = and_parts (content_agrees (attributes_back o) c) (all_agree (attributes_back o) cs) p.0 in
    record {
      is = λ f s.
          when _ _ _ (and_from _ _ q.0 (named_follows w u ∙ p.1))
          ∙ ap (λ n. ahead (Del (put_content (attributes_back o) c) n ∷ []) 1 (compose (replicate (length cs) (Keep w o) ++ f) (map (deletion u) cs ++ s))) (names_old u w)
          ∙ one_more (deletion (joined Second u w) (put_content (attributes_back o) c) ∷ []) (map (deletion (joined Second u w)) (map (put_content (attributes_back o)) cs)) 1 (length cs) (suc (length cs)) (compose f s) _
          ((keep_deleted_meet cs w u o (and_from _ _ q.1 p.1)).is f s) (omega arith);
    }

pub keep_deleted_stop : (n : ℕ) (cs : List Content) (w u : ChangeSet) (part : Option AttributePart) → n ≡ length cs → 0 < n → IsFitPartOf n part → (all_agree (attributes_back (kept_change part)) cs && passes NewIsOld w u) ≡ false
    → Stops (replicate (length cs) (Keep w (kept_change part))) (map (deletion u) cs) 0
keep_deleted_stop n [] w u part e s fit h = absurd (omega (arith, s, e))
keep_deleted_stop n (c ∷ cs) w u part e s fit h = record {
  is = λ f t. unless _ _ _ (ap (λ b. content_agrees (attributes_back (kept_change part)) c && b) (named_follows w u)
      ∙ same_and (content_agrees (attributes_back (kept_change part)) c) (all_agree (attributes_back (kept_change part)) cs) (passes NewIsOld w u) (rest_agrees_back n part cs fit e) h);
}

-- ---- the first inserts, the second deletes

more_common : (b : Bool) (m n : ℕ) → cond b (suc m) 0 ≡ suc n → (b ≡ true) × (m ≡ n)
more_common true m n e = (refl, omega (arith, e))
more_common false m n e = absurd (omega (arith, e))

pub inserted_deleted_meet : (cs es : List Content) (w u : ChangeSet) → length cs ≡ length es → passes OldIsThere w u ≡ true → common es cs ≡ length cs
    → Meets (map (insertion w) cs) (map (deletion u) es) [] (length cs)
inserted_deleted_meet [] [] w u l h e = meets_none
inserted_deleted_meet [] (d ∷ es) w u l h e = absurd (omega (arith, l))
inserted_deleted_meet (c ∷ cs) [] w u l h e = absurd (omega (arith, l))
inserted_deleted_meet (c ∷ cs) (d ∷ es) w u l h e =
    let m = more_common (same_content d c) (common es cs) (length cs) e in
    record {
      is = λ f s.
          when _ _ _ (and_from _ _ m.0 (named_there w u ∙ h))
          ∙ one_more [] [] 1 (length cs) (suc (length cs)) (compose f s) _ ((inserted_deleted_meet cs es w u (omega (arith, l)) h m.1).is f s) (omega arith);
    }

pub inserted_deleted_unnamed : (cs es : List Content) (w u : ChangeSet) → 0 < length cs → length cs ≡ length es → passes OldIsThere w u ≡ false → Stops (map (insertion w) cs) (map (deletion u) es) 0
inserted_deleted_unnamed [] es w u s l h = absurd (omega (arith, s))
inserted_deleted_unnamed (c ∷ cs) [] w u s l h = absurd (omega (arith, l))
inserted_deleted_unnamed (c ∷ cs) (d ∷ es) w u s l h = record { is = λ f t. unless _ _ _ (ap (λ b. same_content d c && b) (named_there w u ∙ h) ∙ and_false (same_content d c)) }
  where
    and_false : (b : Bool) → (b && false) ≡ false
    and_false true = refl
    and_false false = refl

pub inserted_deleted_unlike : (cs es : List Content) (w u : ChangeSet) → length cs ≡ length es → passes OldIsThere w u ≡ true → common es cs < length cs → Stops (map (insertion w) cs) (map (deletion u) es) (common es cs)
inserted_deleted_unlike [] es w u l h e = absurd (omega (arith, e))
inserted_deleted_unlike (c ∷ cs) [] w u l h e = absurd (omega (arith, l))
inserted_deleted_unlike (c ∷ cs) (d ∷ es) w u l h e =
    elim (same_content d c) as (λ b. same_content d c ≡ b → Stops (map (insertion w) (c ∷ cs)) (map (deletion u) (d ∷ es)) (cond (same_content d c) (suc (common es cs)) 0)) [
      | true ↦ λ t.
          let here : cond (same_content d c) (suc (common es cs)) 0 ≡ suc (common es cs) = ap (λ b. cond b (suc (common es cs)) 0) t in
          let one : 1 + common es cs ≡ suc (common es cs) = omega arith in
          let rest = inserted_deleted_unlike cs es w u (omega (arith, l)) h (omega (arith, e, here)) in
          record { is = λ f s. when _ _ _ (and_from _ _ t (named_there w u ∙ h)) ∙ ap (ahead [] 1) (rest.is f s) ∙ ap Err (one ∙ sym here) }
      | false ↦ λ t. record { is = λ f s. unless _ _ _ (ap (λ b. b && matches named (old_values u) (new_values w)) t) ∙ ap Err (sym (ap (λ b. cond b (suc (common es cs)) 0) t)) }
    ] refl
