-- The law of playing backwards.
--     inverses s ds      what takes deltas back that apply in turn from a state: the inverse of the last one first, each at the state
--                        before its delta
--     run_each s lists   the state after lists of acts, one list after the other
--     LeadBack           the inverses of the deltas after a point of a legal history lead from its head to the state there
use Rattle.std.specs.Prelude.{◌≡◌, ℕ, List, [], ◌∷◌, ◌++◌, Option, Some, option_and_then}
use Rattle.std.specs.Option.{option_map_or}
use Rattle.wavelet_op.specs.Acts.{Act}
use Rattle.wavelet_op.specs.Deltas.{DeltaOf}
use Rattle.wavelet_op.specs.States.{State, run}
use Rattle.wavelet_state.specs.Inverses.{inverse_acts}
use Rattle.delta_history.specs.Legal.{IsLegal}
use Rattle.delta_history.specs.Points.{Point, start, acts_of, replay, end_of}

abbrev pub inverses : State → List DeltaOf → List (List Act)
inverses s [] = []
inverses s (d ∷ ds) = option_map_or (λ t. inverses t ds) (run s (acts_of d)) [] ++ inverse_acts s (acts_of d) ∷ []

abbrev pub run_each : State → List (List Act) → Option State
run_each s [] = Some s
run_each s (acts ∷ more) = option_and_then (λ t. run_each t more) (run s acts)

abbrev pub LeadBack : Type 0
LeadBack = (name : List ℕ) (before behind : List DeltaOf) (p : Point) → IsLegal name (before ++ behind) → replay (start name) before
    ≡ Some p
    → run_each (end_of name (before ++ behind)).state (inverses p.state behind) ≡ Some p.state
