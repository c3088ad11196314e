-- Readings of a clock: `tick next step k`, the one of number k of a clock that reads `next` first, and `step` more each time, up to
-- the greatest u64.
use Rattle.std.specs.Prelude.{ℕ, zero, suc, ◌+◌, ◌-◌, ◌^◌, min}

abbrev pub tick : ℕ → ℕ → ℕ → ℕ
tick next step zero = next
tick next step (suc k) = tick (min (next + step) (2 ^ 64 - 1)) step k
