-- Where a delta of a history ends.
--     end_next, end_last     at the start of the next one, or at the head
--     seen_there             each delta is seen at its place
--     state_seen             the state after it
use Rattle.std.proofs.Common.{◌≡◌, ℕ, suc, ◌≤◌, List, [], ◌∷◌, ◌++◌, length, take, drop, slice_get, Some, sym, ap, subst, ◌∙◌}
use Rattle.std.proofs.lemmas.List.{take-append-drop, take_all}
use Rattle.std.proofs.lemmas.Option.{slice_get_within, get_or_from_slice_get}
use Rattle.std.proofs.Math.Seq.{drop-cons}
use Rattle.doc_op.proofs.Applying.{same_Some}
use Rattle.wavelet_op.specs.Deltas.{DeltaOf}
use Rattle.wavelet_op.specs.States.{State}
use Rattle.delta_history.specs.Histories.{HistoryOf, head_of}
use Rattle.delta_history.specs.Legal.{IsLegalFrom, IsLegal}
use Rattle.delta_history.specs.Points.{Point, start, replay}
use Rattle.delta_history.proofs.Chains.{legal_after, starts_at}
use Rattle.delta_history.proofs.Finding.{legal_end}
use Rattle.delta_history.proofs.Points.{run_some}
use Rattle.state_cache.specs.States.{state_after}
use Rattle.robot_host.specs.Places.{IsSeenAt}
use Rattle.robot_host.specs.Views.{Seen}
use Rattle.robot_host.proofs.Prefixes.{led, seen_at}

drop_here : {A : Type 0} (xs : List A) (k : ℕ) (x : A) → slice_get xs k ≡ Some x → drop k xs ≡ x ∷ drop (suc k) xs
drop_here xs k x e = drop-cons xs k x (slice_get_within xs k x e) ∙ ap (λ z. z ∷ drop (suc k) xs) (get_or_from_slice_get xs k x x e)

pub end_next : (h : HistoryOf) (i : ℕ) (x : Seen) (d : DeltaOf) → IsLegal h.name h.deltas → IsSeenAt h i x → slice_get h.deltas (suc i) ≡ Some d → d.from ≡ x.after.at
end_next h i x d l s e =
    let whole : IsLegal h.name (take (suc i) h.deltas ++ drop (suc i) h.deltas) = subst (IsLegal h.name) (sym (take-append-drop (suc i) h.deltas)) l in
    let rest : IsLegalFrom h.name (take (suc i) h.deltas) (d ∷ drop (suc (suc i)) h.deltas) = subst (IsLegalFrom h.name (take (suc i) h.deltas)) (drop_here h.deltas (suc i) d e) (legal_after h.name [] (take (suc i) h.deltas) (drop (suc i) h.deltas) whole) in
    starts_at h.name (take (suc i) h.deltas) d x.after s.leads rest.0

pub end_last : (h : HistoryOf) (i : ℕ) (x : Seen) → IsLegal h.name h.deltas → IsSeenAt h i x → length h.deltas ≤ suc i → (head_of h).at ≡ x.after.at
end_last h i x l s w = ap (λ (p : Point). p.at) (same_Some (sym (legal_end h.name h.deltas l) ∙ sym (ap (replay (start h.name)) (take_all (suc i) h.deltas w)) ∙ s.leads))

pub seen_there : (h : HistoryOf) (i : ℕ) (d : DeltaOf) → IsLegal h.name h.deltas → slice_get h.deltas i ≡ Some d → (p : Point) × IsSeenAt h i (seen_at d p)
seen_there h i d l e = let a = led h i d l e in (a.after, record { there = e; leads = a.leads })

pub state_seen : (h : HistoryOf) (i : ℕ) (x : Seen) (s : State) → IsSeenAt h i x → state_after h.deltas (suc i) ≡ Some s → s ≡ x.after.state
state_seen h i x s seen e = same_Some (sym e ∙ run_some (start h.name) x.after (take (suc i) h.deltas) seen.leads)
