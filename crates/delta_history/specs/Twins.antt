-- The second state of a history.
--     IsBehind name ds s     the last delta leads from this state to the one at the head
--     IsTwin name ds t       the second state is the one at the head, or it is after it
use Rattle.std.specs.Prelude.{◌≡◌, ℕ, List, [], ◌∷◌, ◌++◌, Some}
use Rattle.wavelet_op.specs.Deltas.{DeltaOf}
use Rattle.wavelet_op.specs.States.{State, run}
use Rattle.delta_history.specs.declared.twin.Twin.{Twin}
use Rattle.delta_history.specs.declared.twin.Twin.TheVariants.{Level, Behind}
use Rattle.delta_history.specs.Points.{acts_of, end_of}

pub record IsBehind (name : List ℕ) (ds : List DeltaOf) (s : State) : Type 0 where
  pub before : List DeltaOf
  pub last : DeltaOf
  pub whole : before ++ last ∷ [] ≡ ds
  pub leads : run s (acts_of last) ≡ Some (end_of name ds).state

abbrev pub IsTwin : List ℕ → List DeltaOf → Twin → Type 0
IsTwin name ds (Level s) = (end_of name ds).state ≡ s
IsTwin name ds (Behind s) = IsBehind name ds s
