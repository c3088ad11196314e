-- Where a playback stands in the list of deltas.
--     version_at h k       the version after the first k deltas
--     IsThere h k v s      the version and the state after them, in a history that is legal
--     IsBack ds k o        what takes back the delta at a place leads from the state after it to the one before; None where it isn't kept
--     AreBacks ds backs    so it is for each of the first deltas
use Rattle.std.specs.Prelude.{◌≡◌, ℕ, suc, ◌≤◌, List, length, slice_get, Option, Some, IfSome}
use Rattle.wavelet_op.specs.Acts.{meanings}
use Rattle.wavelet_op.specs.Deltas.{DeltaOf}
use Rattle.wavelet_op.specs.States.{State, run}
use Rattle.wavelet_op.specs.declared.op.WaveletOp.{WaveletOp}
use Rattle.delta_history.specs.Histories.{HistoryOf, head_of}
use Rattle.delta_history.specs.Legal.{IsLegal}
use Rattle.delta_history.specs.Places.{from_or}
use Rattle.state_cache.specs.States.{state_after}

abbrev pub version_at : HistoryOf → ℕ → ℕ
version_at h k = (from_or (head_of h).at (slice_get h.deltas k)).version

pub record IsThere (h : HistoryOf) (k v : ℕ) (s : State) : Type 0 where
  pub legal : IsLegal h.name h.deltas
  pub within : k ≤ length h.deltas
  pub version : version_at h k ≡ v
  pub state : state_after h.deltas k ≡ Some s

abbrev pub IsBack : List DeltaOf → ℕ → Option (List WaveletOp) → Type 0
IsBack ds k o = IfSome o (λ ops. (s t : State) → state_after ds k ≡ Some s → state_after ds (suc k) ≡ Some t → run t (meanings ops)
    ≡ Some s)

abbrev pub AreBacks : List DeltaOf → List (Option (List WaveletOp)) → Type 0
AreBacks ds backs = (k : ℕ) (o : Option (List WaveletOp)) → slice_get backs k ≡ Some o → IsBack ds k o
