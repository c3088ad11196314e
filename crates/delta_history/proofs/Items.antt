-- The items that are there are at most those that were inserted.
--     count-set                 how many items all documents have, after a change of one
--     act_counted, run_counted  acts add at most what they insert
--     items_inserted            at the head of a legal history all documents together have at most the items that its deltas insert
--     head_fits                 so its state makes a snapshot
use Rattle.std.proofs.Common.{◌≡◌, ℕ, ◌+◌, ◌≤◌, Bool, true, false, Ordering, Less, Equal, Greater, cond, List, [], ◌∷◌, length, Option, Some, None, refl, sym, ap, subst, ◌∙◌, arith, le_refl, unwrap_or}
use Rattle.std.proofs.lemmas.Bool.{and_from, le-leb}
use Rattle.std.specs.Ordering.{nat_cmp, is_eq}
use Rattle.std.specs.Cmp.Lexicographic.{slice_cmp}
use Rattle.std.proofs.lemmas.Cmp.{nat_list_cmp_total}
use Rattle.std.specs.FinMap as finite
use Rattle.doc_items.specs.Maps.{Key, Map, same_text, set_key}
use Rattle.doc_items.specs.declared.item.Item.{Item}
use Rattle.doc_items.proofs.Maps.{alike}
use Rattle.doc_op.specs.Actions.{Action, Keep, Ins, Del}
use Rattle.doc_op.specs.Apply.{apply, keeps, kept as item_kept, fits}
use Rattle.doc_op.specs.Lengths.{inserted_len}
use Rattle.doc_op.proofs.Applying.{no_value, same_Some, mapped, passed}
use Rattle.wavelet_op.specs.Acts.{Act, Idle, Adds, Removes, Sets, Mutates, inserted_act, inserted}
use Rattle.wavelet_op.specs.Deltas.{DeltaOf}
use Rattle.wavelet_op.specs.States.{State, empty_state, role_of, on_role, added, removed, role_set, document_of, kept, with_document, is_structured, mutate, apply_act, run}
use Rattle.wavelet_op.specs.declared.role.Role.{Role}
use Rattle.wavelet_op.proofs.Maps.{same_text_is, different, set_same, set_other, set_twice}
use Rattle.wavelet_op.proofs.Partial.{and_then_some}
use Rattle.wavelet_state.specs.Parts.{count_all, item_count}
use Rattle.wavelet_state.specs.Snapshots.{max_inserted, is_snapshot}
use Rattle.delta_history.specs.Legal.{IsLegal}
use Rattle.delta_history.specs.Points.{Point, start, acts_of, next_point, replay, end_of}
use Rattle.delta_history.proofs.Finding.{legal_end, held_end}
use Rattle.delta_history.proofs.Points.{after_point}

-- ---- documents, counted

count_of : Option (List Item) → ℕ
count_of None = 0
count_of (Some items) = length items

abbrev order : Key → Key → Ordering
order = slice_cmp nat_cmp

-- a new entry
count-put : (k : Key) (v : List Item) (es : List (Key × List Item)) → finite.find order k es ≡ None → count_all (finite.put order k v es) ≡ length v + count_all es
count-put k v [] h = refl
count-put k v (e ∷ es) h = at (order k e.0) refl (count-put k v es)
  where
    at : (o : Ordering) → order k e.0 ≡ o → (finite.find order k es ≡ None → count_all (finite.put order k v es) ≡ length v + count_all es) → count_all (finite.put order k v (e ∷ es)) ≡ length v + (length e.1 + count_all es)
    at Less p f = rw p refl
    at Equal p f = no_value (sym h ∙ ap (λ r. cond (is_eq r) (Some e.1) (finite.find order k es)) p)
    at Greater p f =
        let rest = f (sym (ap (λ r. cond (is_eq r) (Some e.1) (finite.find order k es)) p) ∙ h) in
        rw p (omega (arith, rest))

insert-count : (m : Map (List Item)) (k : Key) (v : List Item) → finite.get m k ≡ None → item_count (finite.insert m k v) ≡ length v + item_count m
insert-count m k v h = ap count_all (finite.entries-insert nat_list_cmp_total m k v) ∙ count-put k v (finite.entries m) (sym (finite.get-entries m k) ∙ h)

-- by what is there without the document
apart : (m : Map (List Item)) (k : Key) (v : Option (List Item)) → item_count (set_key m k v) ≡ count_of v + item_count (set_key m k None)
unfolding count_of
apart m k None = omega arith
apart m k (Some v) = ap item_count (sym (set_twice m k None (Some v))) ∙ insert-count (set_key m k None) k v (set_same m k None)

set_itself : (m : Map (List Item)) (k : Key) → set_key m k (finite.get m k) ≡ m
set_itself m k = alike _ _ (λ q. at q (same_text q k) refl)
  where
    at : (q : Key) (b : Bool) → same_text q k ≡ b → finite.get (set_key m k (finite.get m k)) q ≡ finite.get m q
    at q true e = ap (finite.get (set_key m k (finite.get m k))) (same_text_is q k e) ∙ set_same m k (finite.get m k) ∙ ap (finite.get m) (sym (same_text_is q k e))
    at q false e = set_other m k q (finite.get m k) (different q k e)

count_of-kept : (items : List Item) → count_of (kept items) ≡ length items
unfolding count_of
count_of-kept [] = refl
count_of-kept (i ∷ items) = refl

count_of-there : (o : Option (List Item)) → count_of o ≡ length (unwrap_or o [])
unfolding count_of
count_of-there None = refl
count_of-there (Some items) = refl

pub count-set : (m : Map (List Item)) (k : Key) (items : List Item) → item_count (set_key m k (kept items)) + length (unwrap_or (finite.get m k) []) ≡ item_count m + length items
count-set m k items =
    let new = apart m k (kept items) in
    let old = ap item_count (sym (set_itself m k)) ∙ apart m k (finite.get m k) in
    omega (arith, new, old, count_of-kept items, count_of-there (finite.get m k))

-- ---- acts

-- an operation gives as many items as it takes and those that it inserts, at most
few : (acts : List Action) (items out : List Item) → apply acts items ≡ Some out → length out ≤ length items + inserted_len acts
few [] [] out is = subst (λ (l : List Item). length l ≤ 0) (same_Some is) (le_refl 0)
few [] (x ∷ items) out is = no_value is
few (Ins x ∷ more) items out is =
    let m = mapped (λ (o : List Item). x ∷ o) (apply more items) out is in
    let h = few more items m.value m.had in
    omega (arith, h, ap length m.gives)
few (Keep u a ∷ more) [] out is = no_value is
few (Keep u a ∷ more) (x ∷ items) out is =
    let t = passed (keeps u a x) _ out is in
    let m = mapped (λ (o : List Item). item_kept u a x ∷ o) (apply more items) out t.rest in
    let h = few more items m.value m.had in
    omega (arith, h, ap length m.gives)
few (Del c n ∷ more) [] out is = no_value is
few (Del c n ∷ more) (x ∷ items) out is = let h = few more items out (passed (fits c n x) _ out is).rest in omega (arith, h)

role_same : (s t : State) (a : Key) (o : Option (Option Role)) → on_role s a o ≡ Some t → item_count t.documents ≡ item_count s.documents
role_same s t a None e = no_value e
role_same s t a (Some r) e = ap (λ (x : State). item_count x.documents) (sym (same_Some e))

pub act_counted : (s t : State) (a : Act) → apply_act s a ≡ Some t → item_count t.documents ≤ item_count s.documents + inserted_act a
unfolding apply_act inserted_act
act_counted s t Idle e = let same = ap (λ (x : State). item_count x.documents) (same_Some e) in omega (arith, same)
act_counted s t (Adds a) e = let same = role_same s t a (added (role_of s a)) e in omega (arith, same)
act_counted s t (Removes a) e = let same = role_same s t a (removed (role_of s a)) e in omega (arith, same)
act_counted s t (Sets a old new) e = let same = role_same s t a (role_set old new (role_of s a)) e in omega (arith, same)
act_counted s t (Mutates d acts) e =
    let x = and_then_some (mutate acts (document_of s d)) (λ items. Some (with_document s d items)) t e in
    let some = few acts (document_of s d) x.0 (passed (is_structured acts) (apply acts (document_of s d)) x.0 x.1).rest in
    let same = ap (λ (y : State). item_count y.documents) (same_Some x.2) in
    omega (arith, some, same, count-set s.documents d x.0)

pub run_counted : (s t : State) (acts : List Act) → run s acts ≡ Some t → item_count t.documents ≤ item_count s.documents + inserted acts
run_counted s t [] e = let same = ap (λ (x : State). item_count x.documents) (same_Some e) in omega (arith, same)
run_counted s t (a ∷ more) e =
    let x = and_then_some (apply_act s a) (λ u. run u more) t e in
    omega (arith, act_counted s x.0 a x.1, run_counted x.0 t more x.2)

-- ---- histories

abbrev IsCovered : Point → Type 0
IsCovered p = item_count p.state.documents ≤ p.count

next_covered : (p q : Point) (d : DeltaOf) → IsCovered p → next_point p d ≡ Some q → IsCovered q
next_covered p q d h e =
    let b = after_point p q d e in
    let same = ap (λ (x : State). item_count x.documents) b.same in
    omega (arith, h, run_counted p.state b.state (acts_of d) b.goes, same, b.count)

replay_covered : (p q : Point) (ds : List DeltaOf) → IsCovered p → replay p ds ≡ Some q → IsCovered q
replay_covered p q [] h e = subst IsCovered (same_Some e) h
replay_covered p q (d ∷ ds) h e =
    let m = and_then_some (next_point p d) (λ z. replay z ds) q e in
    replay_covered m.0 q ds (next_covered p m.0 d h m.1) m.2

no_items : item_count empty_state.documents ≡ 0
no_items = none (finite.entries empty_state.documents) (sym (finite.len-entries empty_state.documents) ∙ finite.len-empty order (List Item))
  where
    none : (es : List (Key × List Item)) → length es ≡ 0 → count_all es ≡ 0
    none [] e = refl
    none (x ∷ es) e = absurd (omega (arith, e))

pub items_inserted : (name : List ℕ) (ds : List DeltaOf) → IsLegal name ds → item_count (end_of name ds).state.documents ≤ (end_of name ds).count
items_inserted name ds l = replay_covered (start name) (end_of name ds) ds (omega (arith, no_items)) (legal_end name ds l)

pub head_fits : (name : List ℕ) (ds : List DeltaOf) → IsLegal name ds → is_snapshot (end_of name ds).count (end_of name ds).state ≡ true
head_fits name ds l =
    let p = end_of name ds in
    and_from _ _ (le-leb p.count max_inserted (held_end name ds l)) (le-leb (item_count p.state.documents) p.count (items_inserted name ds l))
