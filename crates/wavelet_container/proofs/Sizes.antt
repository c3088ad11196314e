-- How many items documents have after acts.
--     apply_input, apply_output     an operation takes all items of its document, and gives as many and those that it inserts at most
--     act_sized, run_sized          documents grow by no more than what acts insert
--     replay_sized                  so at each point of a history no document has more items than were inserted up to there
--     counts_rise                   that number doesn't fall
--     structured_run                acts that are valid at a state are structured
use Rattle.std.proofs.Common.{◌≡◌, ℕ, ◌+◌, ◌≤◌, Bool, true, false, List, [], ◌∷◌, length, Option, Some, None, refl, sym, subst, arith, le_refl, unwrap_or}
use Rattle.std.specs.FinMap.{get-empty}
use Rattle.std.specs.Ordering.{nat_cmp}
use Rattle.std.specs.Cmp.Lexicographic.{slice_cmp}
use Rattle.std.proofs.lemmas.List.Elements.{All-cons, All-nil}
use Rattle.doc_items.specs.Maps.{Key, same_text}
use Rattle.doc_items.specs.declared.item.Item.{Item}
use Rattle.doc_op.specs.Actions.{Action, Keep, Ins, Del}
use Rattle.doc_op.specs.Apply.{apply, keeps, kept, fits}
use Rattle.doc_op.specs.Lengths.{input_len, output_len, inserted_len}
use Rattle.doc_op.proofs.Applying.{no_value, same_Some, mapped, passed, apply-length}
use Rattle.wavelet_op.specs.Acts.{Act, Idle, Adds, Removes, Sets, Mutates, inserted_act, inserted, IsStructuredAct, AreStructuredActs}
use Rattle.wavelet_op.specs.Deltas.{DeltaOf}
use Rattle.wavelet_op.specs.States.{State, empty_state, role_of, on_role, added, removed, role_set, document_of, with_document, is_structured, mutate, apply_act, run}
use Rattle.wavelet_op.specs.declared.role.Role.{Role}
use Rattle.wavelet_op.proofs.Maps.{same_text_is, different}
use Rattle.wavelet_op.proofs.Partial.{and_then_some}
use Rattle.wavelet_op.proofs.Squares.{document_there, document_elsewhere}
use Rattle.wavelet_op.proofs.Structures.{is_structured-holds}
use Rattle.delta_history.specs.Points.{Point, acts_of, next_point, replay}
use Rattle.delta_history.proofs.Points.{after_point}
use Rattle.wavelet_container.specs.Passing.{AreSmall}

-- ---- one document

pub apply_input : (acts : List Action) (items out : List Item) → apply acts items ≡ Some out → input_len acts ≡ length items
apply_input [] [] out is = refl
apply_input [] (x ∷ items) out is = no_value is
apply_input (Ins x ∷ more) items out is = let m = mapped (λ (o : List Item). x ∷ o) (apply more items) out is in apply_input more items m.value m.had
apply_input (Keep u a ∷ more) [] out is = no_value is
apply_input (Keep u a ∷ more) (x ∷ items) out is =
    let t = passed (keeps u a x) _ out is in
    let m = mapped (λ (o : List Item). kept u a x ∷ o) (apply more items) out t.rest in
    let e = apply_input more items m.value m.had in
    omega (arith, e)
apply_input (Del c n ∷ more) [] out is = no_value is
apply_input (Del c n ∷ more) (x ∷ items) out is = let e = apply_input more items out (passed (fits c n x) _ out is).rest in omega (arith, e)

no_more : (acts : List Action) → output_len acts ≤ input_len acts + inserted_len acts
no_more [] = omega arith
no_more (Ins x ∷ more) = let e = no_more more in omega (arith, e)
no_more (Keep u a ∷ more) = let e = no_more more in omega (arith, e)
no_more (Del c n ∷ more) = let e = no_more more in omega (arith, e)

pub record IsApplied (acts : List Action) (items out : List Item) : Type 0 where
  pub structured : is_structured acts ≡ true
  pub input : input_len acts ≡ length items
  pub output : length out ≤ length items + inserted_len acts

pub mutated : (acts : List Action) (items out : List Item) → mutate acts items ≡ Some out → IsApplied acts items out
mutated acts items out e =
    let m = passed (is_structured acts) (apply acts items) out e in
    let input = apply_input acts items out m.rest in
    let output = apply-length acts items out m.rest in
    let few = no_more acts in
    record { structured = m.test; input = input; output = omega (arith, input, output, few) }

-- ---- all documents

more_small : (s : State) (m n : ℕ) → m ≤ n → AreSmall s m → AreSmall s n
more_small s m n h small d = let k = small d in omega (arith, h, k)

role_small : (s t : State) (a : Key) (o : Option (Option Role)) (n : ℕ) → AreSmall s n → on_role s a o ≡ Some t → AreSmall t n
role_small s t a None n small e = no_value e
role_small s t a (Some r) n small e = subst (λ x. AreSmall x n) (same_Some e) small

with_small : (s : State) (d : Key) (x : List Item) (n : ℕ) → AreSmall s n → length x ≤ n → AreSmall (with_document s d x) n
with_small s d x n small short q = at (same_text q d) refl
  where
    at : (b : Bool) → same_text q d ≡ b → length (document_of (with_document s d x) q) ≤ n
    at true e = subst (λ (z : Key). length (document_of (with_document s d x) z) ≤ n) (sym (same_text_is q d e)) (subst (λ (z : List Item). length z ≤ n) (sym (document_there s d x)) short)
    at false e = subst (λ (z : List Item). length z ≤ n) (sym (document_elsewhere s d q x (different q d e))) (small q)

pub act_sized : (s t : State) (a : Act) (n : ℕ) → AreSmall s n → apply_act s a ≡ Some t → AreSmall t (n + inserted_act a)
unfolding apply_act inserted_act
act_sized s t Idle n small e = more_small t n (n + 0) (omega arith) (subst (λ x. AreSmall x n) (same_Some e) small)
act_sized s t (Adds a) n small e = more_small t n (n + 0) (omega arith) (role_small s t a (added (role_of s a)) n small e)
act_sized s t (Removes a) n small e = more_small t n (n + 0) (omega arith) (role_small s t a (removed (role_of s a)) n small e)
act_sized s t (Sets a old new) n small e = more_small t n (n + 0) (omega arith) (role_small s t a (role_set old new (role_of s a)) n small e)
act_sized s t (Mutates d acts) n small e =
    let x = and_then_some (mutate acts (document_of s d)) (λ items. Some (with_document s d items)) t e in
    let m = mutated acts (document_of s d) x.0 x.1 in
    let short : length x.0 ≤ n + inserted_len acts = let k = small d in omega (arith, k, m.output) in
    subst (λ z. AreSmall z (n + inserted_len acts)) (same_Some x.2) (with_small s d x.0 (n + inserted_len acts) (more_small s n (n + inserted_len acts) (omega arith) small) short)

pub run_sized : (s t : State) (acts : List Act) (n : ℕ) → AreSmall s n → run s acts ≡ Some t → AreSmall t (n + inserted acts)
run_sized s t [] n small e = more_small t n (n + 0) (omega arith) (subst (λ x. AreSmall x n) (same_Some e) small)
run_sized s t (a ∷ more) n small e =
    let x = and_then_some (apply_act s a) (λ u. run u more) t e in
    more_small t (n + inserted_act a + inserted more) (n + (inserted_act a + inserted more)) (omega arith) (run_sized x.0 t more (n + inserted_act a) (act_sized s x.0 a n small x.1) x.2)

-- ---- points

pub next_sized : (p q : Point) (d : DeltaOf) → AreSmall p.state p.count → next_point p d ≡ Some q → AreSmall q.state q.count
next_sized p q d small e =
    let b = after_point p q d e in
    subst (λ z. AreSmall z q.count) (sym b.same) (subst (λ z. AreSmall b.state z) (sym b.count) (run_sized p.state b.state (acts_of d) p.count small b.goes))

pub replay_sized : (p q : Point) (ds : List DeltaOf) → AreSmall p.state p.count → replay p ds ≡ Some q → AreSmall q.state q.count
replay_sized p q [] small e = subst (λ (z : Point). AreSmall z.state z.count) (same_Some e) small
replay_sized p q (d ∷ ds) small e =
    let m = and_then_some (next_point p d) (λ z. replay z ds) q e in
    replay_sized m.0 q ds (next_sized p m.0 d small m.1) m.2

pub counts_rise : (p q : Point) (ds : List DeltaOf) → replay p ds ≡ Some q → p.count ≤ q.count
counts_rise p q [] e = subst (λ (z : Point). p.count ≤ z.count) (same_Some e) (le_refl _)
counts_rise p q (d ∷ ds) e =
    let m = and_then_some (next_point p d) (λ z. replay z ds) q e in
    let b = after_point p m.0 d m.1 in
    let h : (m.0).count ≤ q.count = counts_rise m.0 q ds m.2 in
    omega (arith, b.count, h)

pub empty_small : AreSmall empty_state 0
empty_small d = subst (λ (o : Option (List Item)). length (unwrap_or o []) ≤ 0) (sym (get-empty (slice_cmp nat_cmp) d)) (le_refl 0)

-- ---- structure

structured_act : (s t : State) (a : Act) → apply_act s a ≡ Some t → IsStructuredAct a
unfolding apply_act
structured_act s t Idle e = tt
structured_act s t (Adds a) e = tt
structured_act s t (Removes a) e = tt
structured_act s t (Sets a old new) e = tt
structured_act s t (Mutates d acts) e =
    let x = and_then_some (mutate acts (document_of s d)) (λ items. Some (with_document s d items)) t e in
    is_structured-holds acts (mutated acts (document_of s d) x.0 x.1).structured

pub structured_run : (s t : State) (acts : List Act) → run s acts ≡ Some t → AreStructuredActs acts
structured_run s t [] e = All-nil IsStructuredAct
structured_run s t (a ∷ more) e =
    let x = and_then_some (apply_act s a) (λ u. run u more) t e in
    All-cons IsStructuredAct a more (structured_act s x.0 a x.1) (structured_run x.0 t more x.2)
