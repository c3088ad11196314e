-- The states after the deltas of a history, and those of them that are kept.
--     state_after ds n      the state after the first n deltas, from the state without anything on
--     AreKept ds states      the k-th of the states is the one after the first 64 k deltas
--     IsCacheOf ds states    these are the states after 0, 64, 128 and so on of the deltas
--     IsBegun ds states      so they are of deltas with which these ones begin
use Rattle.std.specs.Prelude.{◌≡◌, ℕ, ◌+◌, ◌*◌, ◌<◌, ◌≤◌, List, ◌++◌, length, take, slice_get, Option, Some}
use Rattle.wavelet_op.specs.Deltas.{DeltaOf}
use Rattle.wavelet_op.specs.States.{State, empty_state}
use Rattle.delta_history.specs.Points.{run_all}

abbrev pub state_after : List DeltaOf → ℕ → Option State
state_after ds n = run_all empty_state (take n ds)

abbrev pub AreKept : List DeltaOf → List State → Type 0
AreKept ds states = (k : ℕ) (s : State) → slice_get states k ≡ Some s → state_after ds (k * 64) ≡ Some s

pub record IsCacheOf (ds : List DeltaOf) (states : List State) : Type 0 where
  pub kept : AreKept ds states
  pub all : length ds < 64 * length states
  pub none_more : 64 * length states ≤ length ds + 64

pub record IsBegun (ds : List DeltaOf) (states : List State) : Type 0 where
  pub front : List DeltaOf
  pub rest : List DeltaOf
  pub whole : front ++ rest ≡ ds
  pub cached : IsCacheOf front states
