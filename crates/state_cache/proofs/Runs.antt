-- Deltas in turn.
--     run_all_append      of two parts of a list the second goes on where the first leads
--     split                  so both parts of valid deltas are valid
--     stretch_valid, stretch_leads      a stretch of them, after a front
use Rattle.std.proofs.Common.{◌≡◌, ℕ, ◌+◌, List, [], ◌∷◌, ◌++◌, take, drop, Option, Some, None, IsSome, true≢false, refl, sym, ap, subst, ◌∙◌, option_and_then}
use Rattle.std.proofs.Math.Seq.{take-add}
use Rattle.std.proofs.lemmas.List.{take-append-drop}
use Rattle.doc_op.proofs.Applying.{same_Some}
use Rattle.wavelet_op.specs.Acts.{meanings}
use Rattle.wavelet_op.specs.Deltas.{DeltaOf}
use Rattle.wavelet_op.specs.States.{State, empty_state, run}
use Rattle.wavelet_op.proofs.Partial.{and_then_some, and_then_same, and_then_twice}
use Rattle.delta_history.specs.Points.{run_all}
use Rattle.state_cache.specs.States.{state_after}

pub run_all_append : (s : State) (xs ys : List DeltaOf) → run_all s (xs ++ ys) ≡ option_and_then (λ t. run_all t ys) (run_all s xs)
run_all_append s [] ys = refl
run_all_append s (x ∷ xs) ys = and_then_same (run s (meanings x.ops)) (λ t. run_all t (xs ++ ys)) (λ t. option_and_then (λ r. run_all r ys) (run_all t xs)) (λ t. run_all_append t xs ys) ∙ sym (and_then_twice (run s (meanings x.ops)) (λ t. run_all t xs) (λ r. run_all r ys))

some_of : {A : Type 0} (o : Option A) → IsSome o → (x : A) × (o ≡ Some x)
some_of (Some x) h = (x, refl)
some_of None h = absurd (true≢false (sym h))

pub record AreSplit (s : State) (xs ys : List DeltaOf) : Type 0 where
  pub middle : State
  pub leads : run_all s xs ≡ Some middle
  pub rest : IsSome (run_all middle ys)

pub split : (s : State) (xs ys : List DeltaOf) → IsSome (run_all s (xs ++ ys)) → AreSplit s xs ys
split s xs ys h =
    let all = some_of (run_all s (xs ++ ys)) h in
    let m = and_then_some (run_all s xs) (λ t. run_all t ys) all.0 (sym (run_all_append s xs ys) ∙ all.1) in
    record { middle = m.0; leads = m.1; rest = subst IsSome (sym m.2) refl }

-- ---- a stretch after a front

pub stretch_valid : (ds : List DeltaOf) (n m : ℕ) (s : State) → IsSome (run_all empty_state ds) → state_after ds n ≡ Some s → IsSome (run_all s (take m (drop n ds)))
stretch_valid ds n m s h e =
    let front : IsSome (run_all empty_state (take (n + m) ds)) = (
    let a = split empty_state (take (n + m) ds) (drop (n + m) ds) (subst (λ z. IsSome (run_all empty_state z)) (sym (take-append-drop (n + m) ds)) h) in
    subst IsSome (sym a.leads) refl
    ) in
    let b = split empty_state (take n ds) (take m (drop n ds)) (subst (λ z. IsSome (run_all empty_state z)) (take-add n m ds) front) in
    subst (λ z. IsSome (run_all z (take m (drop n ds)))) (same_Some (sym b.leads ∙ e)) b.rest

pub stretch_leads : (ds : List DeltaOf) (n m : ℕ) (s t : State) → state_after ds n ≡ Some s → run_all s (take m (drop n ds)) ≡ Some t → state_after ds (n + m) ≡ Some t
stretch_leads ds n m s t e r = ap (run_all empty_state) (take-add n m ds) ∙ run_all_append empty_state (take n ds) (take m (drop n ds)) ∙ ap (option_and_then (λ z. run_all z (take m (drop n ds)))) e ∙ r
