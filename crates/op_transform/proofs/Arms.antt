-- The steps of the walk, as what is done and what is still to come.
use Rattle.std.proofs.Common.{◌≡◌, ℕ, ◌+◌, ◌<◌, inl, inr, Bool, true, false, List, [], ◌++◌, length, map, replicate, refl, sym, ap, subst, ◌∙◌, arith, Err, Option}
use Rattle.std.proofs.lemmas.List.{append-nil}
use Rattle.doc_items.specs.Changes.{ChangeSet, back}
use Rattle.doc_items.specs.Maps.{matches}
use Rattle.doc_items.specs.declared.item.Content.{Content}
use Rattle.change_view.specs.Rules.{same_old}
use Rattle.change_view.specs.Sets.{as_inserted}
use Rattle.doc_op.specs.Actions.{AttributeChange, Action, Keep, insertion, deletion}
use Rattle.doc_op.specs.declared.run.AttributePart.{AttributePart}
use Rattle.op_transform.specs.Crossing.{under, attributes_under, keep_all}
use Rattle.op_runs.specs.Kept.{kept_change, kept_actions, IsFitPartOf}
use Rattle.op_transform.specs.Transform.{Outcome, front, transform_from}
use Rattle.op_runs.specs.Contents.{common}
use Rattle.op_transform.specs.Walks.{levels, NoInsert, expects, IsInserted, IsDeletedBehind, AreKept, AreBothKept}
use Rattle.op_transform.specs.declared.side.Side.{Side}
use Rattle.op_runs.specs.declared.kept.Kept.{Kept}
use Rattle.op_transform.specs.declared.walk.Walk.{Walk}
use Rattle.op_transform.proofs.Fronts.{front_twice, passes, stops}
use Rattle.op_transform.proofs.Rooms.{zero_or_more, levels-put}
use Rattle.op_runs.proofs.Runs.{common_le}
use Rattle.op_transform.proofs.Rows.{later_free, later_under, earlier_free, earlier_under, keeps_meet, keeps_stop, keep_delete_meet, keep_delete_stop, delete_keep_meet, delete_keep_stop, deletes_meet, deletes_stop, names_stop}

-- ---- insertions

forward : (l e f g l' e' : List Action) (r s t : Outcome) → r ≡ front f g s → s ≡ t → l' ≡ l ++ f → e' ≡ e ++ g → front l e r ≡ front l' e' t
forward l e f g l' e' r s t h k p q = ap (front l e) h ∙ front_twice l e f g s ∙ (λ i. front (sym p i) (sym q i) (k i))

forward_same : (l e g l' e' : List Action) (r s t : Outcome) → r ≡ front [] g s → s ≡ t → l' ≡ l → e' ≡ e ++ g → front l e r ≡ front l' e' t
forward_same l e g l' e' r s t h k p q = forward l e [] g l' e' r s t h k (p ∙ sym (append-nil l)) q

forward_other : (l e f l' e' : List Action) (r s t : Outcome) → r ≡ front f [] s → s ≡ t → l' ≡ l ++ f → e' ≡ e → front l e r ≡ front l' e' t
forward_other l e f l' e' r s t h k p q = forward l e f [] l' e' r s t h k p (q ∙ sym (append-nil e))

pub later_inserted : (u : ChangeSet) (cs : List Content) (l e l' e' : Side) (k : ℕ) → IsInserted u cs l e l' e' → (ls es : List Action)
    → front l.out e.out (transform_from k l.depth (map (insertion u) cs ++ ls) e.depth es) ≡ front l'.out e'.out (transform_from k l'.depth ls e'.depth es)
later_inserted u cs l e l' e' k h ls es =
    let moved : transform_from k l.depth ls e.depth es ≡ transform_from k l'.depth ls e'.depth es = λ i. transform_from k (sym h.depth i) ls (sym h.other_depth i) es in
    elim (zero_or_more e.depth) [
      | inl z ↦ forward l.out e.out (map (insertion u) cs) (replicate (length cs) keep_all) l'.out e'.out _ _ _ (later_free cs u k l.depth e.depth z ls es) moved (h.free z).0 (h.free z).1
      | inr s ↦ forward_same l.out e.out (map (deletion (back (as_inserted u))) cs) l'.out e'.out _ _ _ (later_under cs u k l.depth e.depth s ls es) moved (h.under s).0 (h.under s).1
    ]

pub earlier_inserted : (u : ChangeSet) (cs : List Content) (l e l' e' : Side) (k : ℕ) → IsInserted u cs e l e' l' → (ls es : List Action) → NoInsert ls
    → front l.out e.out (transform_from k l.depth ls e.depth (map (insertion u) cs ++ es)) ≡ front l'.out e'.out (transform_from k l'.depth ls e'.depth es)
earlier_inserted u cs l e l' e' k h ls es ni =
    let moved : transform_from k l.depth ls e.depth es ≡ transform_from k l'.depth ls e'.depth es = λ i. transform_from k (sym h.other_depth i) ls (sym h.depth i) es in
    elim (zero_or_more l.depth) [
      | inl z ↦ forward l.out e.out (replicate (length cs) keep_all) (map (insertion u) cs) l'.out e'.out _ _ _ (earlier_free cs u k l.depth e.depth z ls es ni) moved (h.free z).1 (h.free z).0
      | inr s ↦ forward_other l.out e.out (map (deletion (back (as_inserted u))) cs) l'.out e'.out _ _ _ (earlier_under cs u k l.depth e.depth s ls es ni) moved (h.under s).1 (h.under s).0
    ]

-- ---- both keep

both_after : (t : Bool) (x y : Kept) (u w : ChangeSet) (done after : Walk) → t ≡ true → AreKept t x u y w done after → AreBothKept x u y w done after
both_after t x y u w done after e h = subst (λ b. AreKept b x u y w done after) e h

none_after : (t : Bool) (x y : Kept) (u w : ChangeSet) (done after : Walk) → t ≡ false → AreKept t x u y w done after → AreKept false x u y w done after
none_after t x y u w done after e h = subst (λ b. AreKept b x u y w done after) e h

pub both_kept : (x y : Kept) (u w : ChangeSet) (done after : Walk) (t : Bool) → x.count ≡ y.count → t ≡ true → AreKept t x u y w done after
    → (ls es : List Action) → expects done (kept_actions u x ++ ls) (kept_actions w y ++ es) ≡ front after.later.out after.earlier.out (transform_from (after.place + x.count) after.later.depth ls after.earlier.depth es)
both_kept x y u w done after t same is h ls es =
    let k = both_after t x y u w done after is h in
    let a = kept_change x.part in
    let o = kept_change y.part in
    ap (λ n. expects done (kept_actions u x ++ ls) (replicate n (Keep w o) ++ es)) (sym same)
    ∙ passes _ _ _ _ _ _ _ _ _ _ _ _ _ _ _ k.later.out (k.earlier.out ∙ ap (λ n. done.earlier.out ++ replicate n (Keep (under w u) (attributes_under o a))) (sym same)) refl (keeps_meet x.count u w a o done.place done.later.depth done.earlier.depth k.stays) ls es
    ∙ (λ i. front after.later.out after.earlier.out (transform_from (sym k.place i + x.count) (sym k.later.depth i) ls (sym k.earlier.depth i) es))

pub both_refused : (x y : Kept) (u w : ChangeSet) (done after : Walk) (t : Bool) → x.count ≡ y.count → 0 < x.count → t ≡ false → AreKept t x u y w done after
    → (ls es : List Action) → expects done (kept_actions u x ++ ls) (kept_actions w y ++ es) ≡ Err after.place
both_refused x y u w done after t same s is h ls es =
    let k = none_after t x y u w done after is h in
    let a = kept_change x.part in
    let o = kept_change y.part in
    ap (λ n. expects done (kept_actions u x ++ ls) (replicate n (Keep w o) ++ es)) (sym same)
    ∙ stops _ _ _ _ _ _ _ _ _ refl (keeps_stop x.count u w a o done.place done.later.depth done.earlier.depth s k.0) ls es
    ∙ ap (λ v. Err v.place) (sym k.1)

-- ---- one keeps, the other deletes

passed_after : (t : Bool) (v u : ChangeSet) (a : AttributeChange) (cs : List Content) (s s' : Side) → t ≡ true → IsDeletedBehind t v u a cs s s' → IsDeletedBehind true v u a cs s s'
passed_after t v u a cs s s' e h = subst (λ x. IsDeletedBehind x v u a cs s s') e h

failed_after : (t : Bool) (v u : ChangeSet) (a : AttributeChange) (cs : List Content) (s s' : Side) → t ≡ false → IsDeletedBehind t v u a cs s s' → IsDeletedBehind false v u a cs s s'
failed_after t v u a cs s s' e h = subst (λ x. IsDeletedBehind x v u a cs s s') e h

pub earlier_deleted : (lo : List Action) (e e' : Side) (k b n : ℕ) (u v : ChangeSet) (part : Option AttributePart) (cs : List Content) (t : Bool) → n ≡ length cs → t ≡ true → IsDeletedBehind t v u (kept_change part) cs e e'
    → (ls es : List Action) → front lo e.out (transform_from k b (replicate n (Keep u (kept_change part)) ++ ls) e.depth (map (deletion v) cs ++ es)) ≡ front lo e'.out (transform_from (k + n) b ls e'.depth es)
earlier_deleted lo e e' k b n u v part cs t same is h ls es =
    let d = passed_after t v u (kept_change part) cs e e' is h in
    ap (λ j. front lo e.out (transform_from k b (replicate j (Keep u (kept_change part)) ++ ls) e.depth (map (deletion v) cs ++ es))) same
    ∙ passes _ _ _ _ _ _ _ _ _ _ _ _ [] _ _ (sym (append-nil lo)) d.1.out refl (keep_delete_meet cs u v (kept_change part) k b e.depth d.0) ls es
    ∙ (λ i. front lo e'.out (transform_from (k + sym same i) b ls (sym (d.1.depth ∙ levels-put (kept_change part) cs e.depth) i) es))

pub earlier_refused : (lo : List Action) (e e' : Side) (k b n : ℕ) (u v : ChangeSet) (part : Option AttributePart) (cs : List Content) (t : Bool) → n ≡ length cs → 0 < n → IsFitPartOf n part → t ≡ false → IsDeletedBehind t v u (kept_change part) cs e e'
    → (ls es : List Action) → front lo e.out (transform_from k b (replicate n (Keep u (kept_change part)) ++ ls) e.depth (map (deletion v) cs ++ es)) ≡ Err k
earlier_refused lo e e' k b n u v part cs t same s fit is h ls es =
    ap (λ j. front lo e.out (transform_from k b (replicate j (Keep u (kept_change part)) ++ ls) e.depth (map (deletion v) cs ++ es))) same
    ∙ stops _ _ _ _ _ _ _ _ _ refl (keep_delete_stop n cs u v part k b e.depth same s fit (failed_after t v u (kept_change part) cs e e' is h)) ls es

pub later_deleted : (eo : List Action) (l l' : Side) (k d n : ℕ) (u v : ChangeSet) (part : Option AttributePart) (cs : List Content) (t : Bool) → n ≡ length cs → t ≡ true → IsDeletedBehind t v u (kept_change part) cs l l'
    → (ls es : List Action) → front l.out eo (transform_from k l.depth (map (deletion v) cs ++ ls) d (replicate n (Keep u (kept_change part)) ++ es)) ≡ front l'.out eo (transform_from (k + n) l'.depth ls d es)
later_deleted eo l l' k d n u v part cs t same is h ls es =
    let r = passed_after t v u (kept_change part) cs l l' is h in
    ap (λ j. front l.out eo (transform_from k l.depth (map (deletion v) cs ++ ls) d (replicate j (Keep u (kept_change part)) ++ es))) same
    ∙ passes _ _ _ _ _ _ _ _ _ _ _ _ _ [] _ r.1.out (sym (append-nil eo)) refl (delete_keep_meet cs u v (kept_change part) k l.depth d r.0) ls es
    ∙ (λ i. front l'.out eo (transform_from (k + sym same i) (sym (r.1.depth ∙ levels-put (kept_change part) cs l.depth) i) ls d es))

pub later_refused : (eo : List Action) (l l' : Side) (k d n : ℕ) (u v : ChangeSet) (part : Option AttributePart) (cs : List Content) (t : Bool) → n ≡ length cs → 0 < n → IsFitPartOf n part → t ≡ false → IsDeletedBehind t v u (kept_change part) cs l l'
    → (ls es : List Action) → front l.out eo (transform_from k l.depth (map (deletion v) cs ++ ls) d (replicate n (Keep u (kept_change part)) ++ es)) ≡ Err k
later_refused eo l l' k d n u v part cs t same s fit is h ls es =
    ap (λ j. front l.out eo (transform_from k l.depth (map (deletion v) cs ++ ls) d (replicate j (Keep u (kept_change part)) ++ es))) same
    ∙ stops _ _ _ _ _ _ _ _ _ refl (delete_keep_stop n cs u v part k l.depth d same s fit (failed_after t v u (kept_change part) cs l l' is h)) ls es

-- ---- both delete

pub both_deleted : (lo eo : List Action) (k b d b' d' n s : ℕ) (v w : ChangeSet) (cs es : List Content) (t : Bool) → length cs ≡ length es → n ≡ length cs → s ≡ common cs es → (s < n → ⊥) → t ≡ matches same_old v w → t ≡ true → b' ≡ levels cs b → d' ≡ levels es d
    → (ls more : List Action) → front lo eo (transform_from k b (map (deletion v) cs ++ ls) d (map (deletion w) es ++ more)) ≡ front lo eo (transform_from (k + n) b' ls d' more)
both_deleted lo eo k b d b' d' n s v w cs es t same e is all c h p q ls more =
    let whole : common cs es ≡ length cs = omega (arith, common_le cs es, is, e, all) in
    passes _ _ _ _ _ _ _ _ _ _ _ _ [] [] _ (sym (append-nil lo)) (sym (append-nil eo)) refl (deletes_meet cs es v w k b d same (sym c ∙ h) whole) ls more
    ∙ (λ i. front lo eo (transform_from (k + sym e i) (sym p i) ls (sym q i) more))

pub both_unlike : (lo eo : List Action) (k b d n s : ℕ) (v w : ChangeSet) (cs es : List Content) (t : Bool) → length cs ≡ length es → n ≡ length cs → s ≡ common cs es → s < n → t ≡ matches same_old v w → t ≡ true
    → (ls more : List Action) → front lo eo (transform_from k b (map (deletion v) cs ++ ls) d (map (deletion w) es ++ more)) ≡ Err (k + s)
both_unlike lo eo k b d n s v w cs es t same e is fewer c h ls more =
    stops _ _ _ _ _ _ _ _ _ (ap (λ x. k + x) is) (deletes_stop cs es v w k b d same (sym c ∙ h) (omega (arith, is, e, fewer))) ls more

pub names_unlike : (lo eo : List Action) (k b d : ℕ) (v w : ChangeSet) (cs es : List Content) (t : Bool) → 0 < length cs → length cs ≡ length es → t ≡ matches same_old v w → t ≡ false
    → (ls more : List Action) → front lo eo (transform_from k b (map (deletion v) cs ++ ls) d (map (deletion w) es ++ more)) ≡ Err k
names_unlike lo eo k b d v w cs es t s same c h ls more = stops _ _ _ _ _ _ _ _ _ refl (names_stop cs es v w k b d s same (sym c ∙ h)) ls more
