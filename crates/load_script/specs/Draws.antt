-- The numbers that are drawn: a linear congruential generator modulo 2^64 with the constants of Knuth's MMIX, of whose state the
-- upper 31 bits are used.
--     next x          the state after a draw at x
--     drawn n x       what is drawn at x, below n
use Rattle.std.specs.Prelude.{ℕ, ◌+◌, ◌*◌, ◌/◌, ◌%◌, ◌^◌}

unfoldable pub next : ℕ → ℕ
next x = (x * 6364136223846793005 + 1442695040888963407) % 2 ^ 64

unfoldable pub drawn : ℕ → ℕ → ℕ
drawn n x = next x / 2 ^ 33 % n
