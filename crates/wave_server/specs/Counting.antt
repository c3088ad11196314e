-- How many links a server accepts.
--     WereAccepted base now n     so many links were accepted since the net's count of them was `base`; it stays at the greatest u64
--     HasCounted ..           with the status 0 there was a number of sessions, so many have ended, and so many links were accepted; with
--                             any status no more links were accepted than that number
use Rattle.std.specs.Prelude.{◌≡◌, ◌<◌, ◌≤◌, ◌+◌, ◌-◌, ◌^◌, ℕ, min, Bool, true, Option, Some}

pub record WereAccepted (base now n : ℕ) : Type 0 where
  pub most : now ≤ base + n
  pub exactly : base < 2 ^ 64 → now ≡ min (base + n) (2 ^ 64 - 1)

-- whether what was seen is there, how many sessions have ended, and the net's count of links that were accepted, before and after
pub record HasCounted (sessions : Option ℕ) (status : ℕ) (is_there : Bool) (ended before now : ℕ) : Type 0 where
  pub done : status ≡ 0 → (n : ℕ) × (sessions ≡ Some n) × (ended ≡ n) × (is_there ≡ true)
      × (before < 2 ^ 64 → now ≡ min (before + n) (2 ^ 64 - 1))
  pub most : (n : ℕ) → sessions ≡ Some n → now ≤ before + n
