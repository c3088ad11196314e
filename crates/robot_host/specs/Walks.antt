-- A walk over the deltas of a history.
--     IsReached ds w      the state that it keeps is the one after as many deltas as it went over
--     IsThere ds n w      it went over n, where that aren't all
use Rattle.std.specs.Prelude.{◌≡◌, ◌≢◌, ℕ, List, length, Some}
use Rattle.wavelet_op.specs.Deltas.{DeltaOf}
use Rattle.state_cache.specs.States.{state_after}
use Rattle.robot_host.specs.declared.walk.Walk.{Walk}

abbrev pub IsReached : List DeltaOf → Walk → Type 0
IsReached ds w = state_after ds w.place ≡ Some w.state

abbrev pub IsThere : List DeltaOf → ℕ → Walk → Type 0
IsThere ds n w = n ≢ length ds → w.place ≡ n
