-- A state of the past that goes forward and back with the deltas of a history.
--     LeadsBack ds n b        from the state after n + 1 deltas these operations lead to the one after n
--     AllLeadBack ds n bs     each of some operations leads back by a delta, the first of them to the state after n deltas
--     place_of t              how many deltas the state is after
--     IsTrail ds t            the trail's state is the one after so many deltas, and it keeps what takes the last of them back
--     IsReached ds n o        the trail, where there is one, is at the state after n deltas
--     IsKeptBack n b t u      what takes the last delta back was kept, or else nothing before it can be taken back
--     IsTriedAt s as o        what is found where acts are tried at a state: None where they are valid
use Rattle.std.specs.Prelude.{◌≡◌, ◌⊎◌, ◌+◌, ◌≤◌, ℕ, List, [], ◌∷◌, ◌++◌, length, Option, Some, None, IsSome, IfSome, MatchOption}
use Rattle.wavelet_op.specs.Acts.{Act, meanings}
use Rattle.wavelet_op.specs.Deltas.{DeltaOf}
use Rattle.wavelet_op.specs.States.{State, run, first_invalid}
use Rattle.wavelet_op.specs.declared.op.WaveletOp.{WaveletOp}
use Rattle.state_cache.specs.States.{state_after}
use Rattle.wavelet_container.specs.declared.trail.Trail.{Trail}

abbrev pub LeadsBack : List DeltaOf → ℕ → List WaveletOp → Type 0
LeadsBack ds n b = (s : State) → state_after ds (n + 1) ≡ Some s → run s (meanings b) ≡ state_after ds n

abbrev pub AllLeadBack : List DeltaOf → ℕ → List (List WaveletOp) → Type 0
AllLeadBack ds n [] = Unit {0}
AllLeadBack ds n (b ∷ bs) = LeadsBack ds n b × AllLeadBack ds (n + 1) bs

abbrev pub place_of : Trail → ℕ
place_of t = t.first + length t.backs.items

pub record IsTrail (ds : List DeltaOf) (t : Trail) : Type 0 where
  pub inside : place_of t ≤ length ds
  pub leads : state_after ds (place_of t) ≡ Some t.state
  pub backs : AllLeadBack ds t.first t.backs.items

abbrev pub IsReached : List DeltaOf → ℕ → Option Trail → Type 0
IsReached ds n o = IfSome o (λ t. IsTrail ds t × (place_of t ≡ n))

pub record IsNextBack (b : List WaveletOp) (t u : Trail) : Type 0 where
  pub first : u.first ≡ t.first
  pub backs : u.backs.items ≡ t.backs.items ++ b ∷ []

pub record IsBarred (n : ℕ) (u : Trail) : Type 0 where
  pub first : u.first ≡ n + 1
  pub backs : u.backs.items ≡ []

abbrev pub IsKeptBack : ℕ → List WaveletOp → Trail → Trail → Type 0
IsKeptBack n b t u = IsNextBack b t u ⊎ IsBarred n u

abbrev pub IsTriedAt : State → List Act → Option ℕ → Type 0
IsTriedAt s acts o = MatchOption o (IsSome (run s acts)) (λ k. (k ≡ first_invalid s acts) × (run s acts ≡ None))
