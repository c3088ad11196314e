-- The status of each stop.
--     IsStatus s n         this is the status
--     IsServerStatus n     any that a server may end with
--     TellsSpent b r       a call stops with `Spent` exactly where a shard was seen to have no turn left
use Rattle.std.specs.Prelude.{◌≡◌, ◌≢◌, ◌⊎◌, ℕ, Bool, false, MatchBool, Result, MatchResult}
use Rattle.wave_server.specs.declared.stop.Stop.{Stop}
use Rattle.wave_server.specs.declared.stop.Stop.TheVariants.{Door, Memory, Refused, Spent}

abbrev pub IsStatus : Stop → ℕ → Type 0
IsStatus Door n = n ≡ 7
IsStatus Memory n = n ≡ 8
IsStatus Refused n = n ≡ 9
IsStatus Spent n = n ≡ 12

abbrev pub IsServerStatus : ℕ → Type 0
IsServerStatus n = (n ≡ 0) ⊎ ((n ≡ 7) ⊎ ((n ≡ 8) ⊎ ((n ≡ 9) ⊎ (n ≡ 12))))

abbrev pub TellsSpent : {A : Type 0} → Bool → Result A Stop → Type 0
TellsSpent seen result = MatchResult result (λ _. seen ≡ false) (λ s. MatchBool seen (s ≡ Spent) (s ≢ Spent))
