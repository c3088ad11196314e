-- The rows of the transform over runs.
use Rattle.std.proofs.Common.{◌≡◌, ℕ, zero, suc, ◌+◌, ◌<◌, Bool, true, false, cond, ◌&&◌, List, [], ◌∷◌, ◌++◌, length, map, replicate, refl, sym, ap, ◌∙◌, arith, Err, Option, None, Some}
use Rattle.std.proofs.lemmas.Bool.{and_parts, and_from}
use Rattle.doc_items.specs.Balance.{level}
use Rattle.doc_items.specs.Changes.{ChangeSet, back}
use Rattle.doc_items.specs.Maps.{matches, merge}
use Rattle.doc_items.specs.declared.item.Content.{Content}
use Rattle.doc_op.specs.Actions.{AttributeChange, Action, Keep, Del, insertion, deletion, new_values, old_values}
use Rattle.doc_op.specs.Runs.{part_change}
use Rattle.doc_op.specs.declared.run.AttributePart.{AttributePart}
use Rattle.doc_op.specs.Apply.{content_agrees, put_content, same_content, names_of}
use Rattle.change_view.specs.Rules.{one_second_turned, same_old}
use Rattle.change_view.specs.Sets.{as_inserted}
use Rattle.op_transform.specs.Crossing.{cross, over, under, attributes_cross, attributes_over, attributes_under, names_after, named_alike, can_follow, keep_all}
use Rattle.op_transform.specs.Transform.{Outcome, front, transform_from}
use Rattle.op_runs.specs.Kept.{kept_change, IsFitPartOf}
use Rattle.op_runs.specs.Contents.{common, all_agree}
use Rattle.op_transform.specs.Walks.{levels, NoInsert}
use Rattle.op_transform.proofs.Fronts.{front_none, front_twice, when, unless, Meets, Stops, past_one, past_none}
use Rattle.op_runs.proofs.Runs.{agrees_unchanged, all_unchanged}
use Rattle.op_transform.proofs.Named.{names_cross, names_alike, names_behind, names_inserted}

-- ---- insertions

pub later_free : (cs : List Content) (u : ChangeSet) (k b d : ℕ) → d ≡ 0 → (ls es : List Action)
    → transform_from k b (map (insertion u) cs ++ ls) d es ≡ front (map (insertion u) cs) (replicate (length cs) keep_all) (transform_from k b ls d es)
later_free [] u k b d z ls es = sym (front_none _)
later_free (c ∷ cs) u k b zero z ls es = ap (front (insertion u c ∷ []) (keep_all ∷ [])) (later_free cs u k b 0 z ls es) ∙ front_twice (insertion u c ∷ []) (keep_all ∷ []) (map (insertion u) cs) (replicate (length cs) keep_all) (transform_from k b ls 0 es)
later_free (c ∷ cs) u k b (suc d) z ls es = absurd (omega (arith, z))

pub deletes_all : (u : ChangeSet) (c : Content) → deletion (back (as_inserted u)) c ≡ Del c (names_of (new_values u))
deletes_all u c = ap (Del c) (names_inserted u)

pub later_under : (cs : List Content) (u : ChangeSet) (k b d : ℕ) → 0 < d → (ls es : List Action)
    → transform_from k b (map (insertion u) cs ++ ls) d es ≡ front [] (map (deletion (back (as_inserted u))) cs) (transform_from k b ls d es)
later_under cs u k b zero h ls es = absurd (omega (arith, h))
later_under [] u k b (suc d) h ls es = sym (front_none _)
later_under (c ∷ cs) u k b (suc d) h ls es =
    ap (λ a. front [] (a ∷ []) (transform_from k b (map (insertion u) cs ++ ls) (suc d) es)) (sym (deletes_all u c))
    ∙ ap (front [] (deletion (back (as_inserted u)) c ∷ [])) (later_under cs u k b (suc d) h ls es)
    ∙ front_twice [] (deletion (back (as_inserted u)) c ∷ []) [] (map (deletion (back (as_inserted u))) cs) (transform_from k b ls (suc d) es)

pub earlier_free : (cs : List Content) (u : ChangeSet) (k b d : ℕ) → b ≡ 0 → (ls es : List Action) → NoInsert ls
    → transform_from k b ls d (map (insertion u) cs ++ es) ≡ front (replicate (length cs) keep_all) (map (insertion u) cs) (transform_from k b ls d es)
earlier_free [] u k b d z ls es ni = sym (front_none _)
earlier_free (c ∷ cs) u k zero d z ls es ni =
    ni _ k 0 d _ ∙ ap (front (keep_all ∷ []) (insertion u c ∷ [])) (earlier_free cs u k 0 d z ls es ni)
    ∙ front_twice (keep_all ∷ []) (insertion u c ∷ []) (replicate (length cs) keep_all) (map (insertion u) cs) (transform_from k 0 ls d es)
earlier_free (c ∷ cs) u k (suc b) d z ls es ni = absurd (omega (arith, z))

pub earlier_under : (cs : List Content) (u : ChangeSet) (k b d : ℕ) → 0 < b → (ls es : List Action) → NoInsert ls
    → transform_from k b ls d (map (insertion u) cs ++ es) ≡ front (map (deletion (back (as_inserted u))) cs) [] (transform_from k b ls d es)
earlier_under cs u k zero d h ls es ni = absurd (omega (arith, h))
earlier_under [] u k (suc b) d h ls es ni = sym (front_none _)
earlier_under (c ∷ cs) u k (suc b) d h ls es ni =
    ni _ k (suc b) d _ ∙ ap (λ a. front (a ∷ []) [] (transform_from k (suc b) ls d (map (insertion u) cs ++ es))) (sym (deletes_all u c))
    ∙ ap (front (deletion (back (as_inserted u)) c ∷ []) []) (earlier_under cs u k (suc b) d h ls es ni)
    ∙ front_twice (deletion (back (as_inserted u)) c ∷ []) [] (map (deletion (back (as_inserted u))) cs) [] (transform_from k (suc b) ls d es)

-- ---- both keep

pub keeps_meet : (n : ℕ) (u w : ChangeSet) (a o : AttributeChange) (k b d : ℕ) → (cross u w && attributes_cross a o) ≡ true
    → Meets k b d (replicate n (Keep u a)) (replicate n (Keep w o)) (replicate n (Keep (over u w) (attributes_over a o))) (replicate n (Keep (under w u) (attributes_under o a))) n b d
keeps_meet n u w a o k b d h = record { is = go n k }
  where
    go : (n k : ℕ) (ls es : List Action) → transform_from k b (replicate n (Keep u a) ++ ls) d (replicate n (Keep w o) ++ es)
        ≡ front (replicate n (Keep (over u w) (attributes_over a o))) (replicate n (Keep (under w u) (attributes_under o a))) (transform_from (k + n) b ls d es)
    go zero k ls es = past_none k b d ls es
    go (suc n) k ls es = when _ _ _ h ∙ past_one k n b d (Keep (over u w) (attributes_over a o) ∷ []) (Keep (under w u) (attributes_under o a) ∷ [])
        (replicate n (Keep (over u w) (attributes_over a o))) (replicate n (Keep (under w u) (attributes_under o a))) ls es _ (go n (suc k) ls es)

pub keeps_stop : (n : ℕ) (u w : ChangeSet) (a o : AttributeChange) (k b d : ℕ) → 0 < n → (cross u w && attributes_cross a o) ≡ false
    → Stops k b d (replicate n (Keep u a)) (replicate n (Keep w o)) k
keeps_stop zero u w a o k b d s h = absurd (omega (arith, s))
keeps_stop (suc n) u w a o k b d s h = record { is = λ ls es. unless _ _ _ h }

-- ---- one keeps, the other deletes

-- the test and the deletion after a change, by the changes whose old values are the names
follows : (c : Content) (v u : ChangeSet) (a : AttributeChange) (t : Bool) → (content_agrees a c && matches same_old v u) ≡ t → can_follow c (old_values v) u a ≡ t
follows c v u a t h = ap (λ x. content_agrees a c && x) (names_cross v u) ∙ h

behind : (c : Content) (v u : ChangeSet) (a : AttributeChange) → Del (put_content a c) (names_after (old_values v) u) ≡ deletion (merge one_second_turned v u) (put_content a c)
behind c v u a = ap (Del (put_content a c)) (sym (names_behind v u))

-- the deletions of contents whose attributes change by a, after the changes u
abbrev Behind : List Content → ChangeSet → ChangeSet → AttributeChange → List Action
Behind cs v u a = map (deletion (merge one_second_turned v u)) (map (put_content a) cs)

first_agrees : (a : AttributeChange) (c : Content) (cs : List Content) (m : Bool) → (all_agree a (c ∷ cs) && m) ≡ true → ((content_agrees a c && m) ≡ true) × ((all_agree a cs && m) ≡ true)
first_agrees a c cs m h =
    let p = and_parts _ _ h in
    let q = and_parts (content_agrees a c) (all_agree a cs) p.0 in
    (and_from _ _ q.0 p.1, and_from _ _ q.1 p.1)

pub keep_delete_meet : (cs : List Content) (u v : ChangeSet) (a : AttributeChange) (k b d : ℕ) → (all_agree a cs && matches same_old v u) ≡ true
    → Meets k b d (replicate (length cs) (Keep u a)) (map (deletion v) cs) [] (Behind cs v u a) (length cs) b (levels cs d)
keep_delete_meet cs u v a k b d h = record { is = go cs k d h }
  where
    go : (cs : List Content) (k d : ℕ) → (all_agree a cs && matches same_old v u) ≡ true → (ls es : List Action) → transform_from k b (replicate (length cs) (Keep u a) ++ ls) d (map (deletion v) cs ++ es)
        ≡ front [] (Behind cs v u a) (transform_from (k + length cs) b ls (levels cs d) es)
    go [] k d h ls es = past_none k b d ls es
    go (c ∷ cs) k d h ls es = let p = first_agrees a c cs (matches same_old v u) h in
        when _ _ _ (follows c v u a true p.0)
        ∙ ap (λ x. front [] (x ∷ []) (transform_from (suc k) b (replicate (length cs) (Keep u a) ++ ls) (level c d) (map (deletion v) cs ++ es))) (behind c v u a)
        ∙ past_one k (length cs) b (levels cs (level c d)) [] (Behind (c ∷ []) v u a) [] (Behind cs v u a) ls es _ (go cs (suc k) (level c d) p.1 ls es)

pub delete_keep_meet : (cs : List Content) (u v : ChangeSet) (a : AttributeChange) (k b d : ℕ) → (all_agree a cs && matches same_old v u) ≡ true
    → Meets k b d (map (deletion v) cs) (replicate (length cs) (Keep u a)) (Behind cs v u a) [] (length cs) (levels cs b) d
delete_keep_meet cs u v a k b d h = record { is = go cs k b h }
  where
    go : (cs : List Content) (k b : ℕ) → (all_agree a cs && matches same_old v u) ≡ true → (ls es : List Action) → transform_from k b (map (deletion v) cs ++ ls) d (replicate (length cs) (Keep u a) ++ es)
        ≡ front (Behind cs v u a) [] (transform_from (k + length cs) (levels cs b) ls d es)
    go [] k b h ls es = past_none k b d ls es
    go (c ∷ cs) k b h ls es = let p = first_agrees a c cs (matches same_old v u) h in
        when _ _ _ (follows c v u a true p.0)
        ∙ ap (λ x. front (x ∷ []) [] (transform_from (suc k) (level c b) (map (deletion v) cs ++ ls) d (replicate (length cs) (Keep u a) ++ es))) (behind c v u a)
        ∙ past_one k (length cs) (levels cs (level c b)) d (Behind (c ∷ []) v u a) [] (Behind cs v u a) [] ls es _ (go cs (suc k) (level c b) p.1 ls es)

and_true : (b : Bool) → (b && true) ≡ b
and_true true = refl
and_true false = refl

-- the first content doesn't follow: it is the only one, or none has attributes that change
first_fails : (n : ℕ) (part : Option AttributePart) (c : Content) (cs : List Content) (m : Bool) → n ≡ suc (length cs) → IsFitPartOf n part → (all_agree (kept_change part) (c ∷ cs) && m) ≡ false → (content_agrees (kept_change part) c && m) ≡ false
first_fails n None c cs m e f h = ap (λ x. x && m) (agrees_unchanged c ∙ sym (all_unchanged (c ∷ cs))) ∙ h
first_fails n (Some part) c [] m e f h = ap (λ x. x && m) (sym (and_true (content_agrees (part_change part) c))) ∙ h
first_fails n (Some part) c (d ∷ cs) m e f h = absurd (omega (arith, e, f.0))

pub keep_delete_stop : (n : ℕ) (cs : List Content) (u v : ChangeSet) (part : Option AttributePart) (k b d : ℕ) → n ≡ length cs → 0 < n → IsFitPartOf n part → (all_agree (kept_change part) cs && matches same_old v u) ≡ false
    → Stops k b d (replicate (length cs) (Keep u (kept_change part))) (map (deletion v) cs) k
keep_delete_stop n [] u v part k b d e s f h = absurd (omega (arith, e, s))
keep_delete_stop n (c ∷ cs) u v part k b d e s f h = record { is = λ ls es. unless _ _ _ (follows c v u (kept_change part) false (first_fails n part c cs (matches same_old v u) e f h)) }

pub delete_keep_stop : (n : ℕ) (cs : List Content) (u v : ChangeSet) (part : Option AttributePart) (k b d : ℕ) → n ≡ length cs → 0 < n → IsFitPartOf n part → (all_agree (kept_change part) cs && matches same_old v u) ≡ false
    → Stops k b d (map (deletion v) cs) (replicate (length cs) (Keep u (kept_change part))) k
delete_keep_stop n [] u v part k b d e s f h = absurd (omega (arith, e, s))
delete_keep_stop n (c ∷ cs) u v part k b d e s f h = record { is = λ ls es. unless _ _ _ (follows c v u (kept_change part) false (first_fails n part c cs (matches same_old v u) e f h)) }

-- ---- both delete

deletes_go : (v w : ChangeSet) → matches named_alike (old_values v) (old_values w) ≡ true → (cs es : List Content) (k b d : ℕ) (ls more : List Action) → length cs ≡ length es → common cs es ≡ length cs
    → transform_from k b (map (deletion v) cs ++ ls) d (map (deletion w) es ++ more) ≡ front [] [] (transform_from (k + length cs) (levels cs b) ls (levels es d) more)
deletes_go v w h [] [] k b d ls more p q = past_none k b d ls more
deletes_go v w h [] (e ∷ es) k b d ls more p q = absurd (omega (arith, p))
deletes_go v w h (c ∷ cs) [] k b d ls more p q = absurd (omega (arith, p))
deletes_go v w h (c ∷ cs) (e ∷ es) k b d ls more p q =
    elim (same_content c e) as (λ t. cond t (suc (common cs es)) 0 ≡ suc (length cs)
    → cond (t && matches named_alike (old_values v) (old_values w)) (transform_from (suc k) (level c b) (map (deletion v) cs ++ ls) (level e d) (map (deletion w) es ++ more)) (Err k)
    ≡ front [] [] (transform_from (k + suc (length cs)) (levels cs (level c b)) ls (levels es (level e d)) more)) [
      | true ↦ λ j. when _ _ _ h ∙ sym (front_none _) ∙ past_one k (length cs) (levels cs (level c b)) (levels es (level e d)) [] [] [] [] ls more _
          (deletes_go v w h cs es (suc k) (level c b) (level e d) ls more (omega (arith, p)) (omega (arith, j)))
      | false ↦ λ j. absurd (omega (arith, j))
    ] q

stops_go : (v w : ChangeSet) → matches named_alike (old_values v) (old_values w) ≡ true → (cs es : List Content) (k b d : ℕ) (ls more : List Action) → length cs ≡ length es → common cs es < length cs
    → transform_from k b (map (deletion v) cs ++ ls) d (map (deletion w) es ++ more) ≡ Err (k + common cs es)
stops_go v w h [] es k b d ls more p q = absurd (omega (arith, q))
stops_go v w h (c ∷ cs) [] k b d ls more p q = absurd (omega (arith, p))
stops_go v w h (c ∷ cs) (e ∷ es) k b d ls more p q =
    elim (same_content c e) as (λ t. cond t (suc (common cs es)) 0 < suc (length cs)
    → cond (t && matches named_alike (old_values v) (old_values w)) (transform_from (suc k) (level c b) (map (deletion v) cs ++ ls) (level e d) (map (deletion w) es ++ more)) (Err k)
    ≡ Err (k + cond t (suc (common cs es)) 0)) [
      | true ↦ λ j. let m : suc k + common cs es ≡ k + suc (common cs es) = omega arith in when _ _ _ h ∙ stops_go v w h cs es (suc k) (level c b) (level e d) ls more (omega (arith, p)) (omega (arith, j)) ∙ ap Err m
      | false ↦ λ j. let m : k ≡ k + 0 = omega arith in ap Err m
    ] q

pub deletes_meet : (cs es : List Content) (v w : ChangeSet) (k b d : ℕ) → length cs ≡ length es → matches same_old v w ≡ true → common cs es ≡ length cs
    → Meets k b d (map (deletion v) cs) (map (deletion w) es) [] [] (length cs) (levels cs b) (levels es d)
deletes_meet cs es v w k b d p h q = record { is = λ ls more. deletes_go v w (names_alike v w ∙ h) cs es k b d ls more p q }

pub deletes_stop : (cs es : List Content) (v w : ChangeSet) (k b d : ℕ) → length cs ≡ length es → matches same_old v w ≡ true → common cs es < length cs
    → Stops k b d (map (deletion v) cs) (map (deletion w) es) (k + common cs es)
deletes_stop cs es v w k b d p h q = record { is = λ ls more. stops_go v w (names_alike v w ∙ h) cs es k b d ls more p q }

names_go : (t b : Bool) (r s : Outcome) → b ≡ false → cond (t && b) r s ≡ s
names_go true b r s h = ap (λ x. cond x r s) h
names_go false b r s h = refl

pub names_stop : (cs es : List Content) (v w : ChangeSet) (k b d : ℕ) → 0 < length cs → length cs ≡ length es → matches same_old v w ≡ false
    → Stops k b d (map (deletion v) cs) (map (deletion w) es) k
names_stop [] es v w k b d s p h = absurd (omega (arith, s))
names_stop (c ∷ cs) [] v w k b d s p h = absurd (omega (arith, p))
names_stop (c ∷ cs) (e ∷ es) v w k b d s p h = record { is = λ ls more. names_go (same_content c e) _ _ _ (names_alike v w ∙ h) }
