-- One delta on.
--     IsGone, gone      of valid deltas the next one applies to the state after the first ones, and leads to the one after it
--     at_head           the state after all
use Rattle.std.proofs.Common.{◌≡◌, ℕ, suc, List, [], ◌∷◌, length, take, drop, slice_get, Some, IsSome, is_some, sym, ap, subst, ◌∙◌, le_refl, option_and_then}
use Rattle.std.proofs.lemmas.List.{take-append-drop, take_all}
use Rattle.wavelet_op.specs.Deltas.{DeltaOf}
use Rattle.wavelet_op.specs.States.{State, empty_state, run}
use Rattle.wavelet_op.proofs.Partial.{and_then_some}
use Rattle.delta_history.specs.Histories.{HistoryOf, head_of}
use Rattle.delta_history.specs.Legal.{IsLegal}
use Rattle.delta_history.specs.Points.{start, acts_of, run_all}
use Rattle.delta_history.proofs.Finding.{legal_end}
use Rattle.delta_history.proofs.Points.{run_some}
use Rattle.state_cache.specs.States.{state_after}
use Rattle.state_cache.proofs.Runs.{run_all_append, split}
use Rattle.robot_host.proofs.Prefixes.{take_more}

pub record IsGone (ds : List DeltaOf) (n : ℕ) (d : DeltaOf) (s : State) : Type 0 where
  pub valid : IsSome (run s (acts_of d))
  pub leads : (t : State) → run s (acts_of d) ≡ Some t → state_after ds (suc n) ≡ Some t

pub gone : (ds : List DeltaOf) (n : ℕ) (d : DeltaOf) (s : State) → IsSome (run_all empty_state ds) → slice_get ds n ≡ Some d → state_after ds n ≡ Some s → IsGone ds n d s
gone ds n d s v e at =
    let parts = split empty_state (take (suc n) ds) (drop (suc n) ds) (subst (λ z. IsSome (run_all empty_state z)) (sym (take-append-drop (suc n) ds)) v) in
    let on : state_after ds (suc n) ≡ run_all s (d ∷ []) = ap (run_all empty_state) (take_more ds n d e) ∙ run_all_append empty_state (take n ds) (d ∷ []) ∙ ap (option_and_then (λ t. run_all t (d ∷ []))) at in
    let last = and_then_some (run s (acts_of d)) (λ t. Some t) parts.middle (sym on ∙ parts.leads) in
    record {
      valid = ap is_some last.1;
      leads = λ t g. on ∙ ap (option_and_then (λ z. Some z)) g;
    }

pub runs_to : (h : HistoryOf) → IsLegal h.name h.deltas → run_all empty_state h.deltas ≡ Some (head_of h).state
runs_to h l = run_some (start h.name) (head_of h) h.deltas (legal_end h.name h.deltas l)

pub at_head : (h : HistoryOf) → IsLegal h.name h.deltas → state_after h.deltas (length h.deltas) ≡ Some (head_of h).state
at_head h l = ap (run_all empty_state) (take_all (length h.deltas) h.deltas (le_refl _)) ∙ runs_to h l
