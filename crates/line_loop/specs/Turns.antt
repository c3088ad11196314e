-- Turns of a machine.
--     Turn               a line that it is given, with a reading of the clock
--     turn_at time line  one of them
--     lines_in ts        the lines of turns
--     later clock        the readings after the first
--     timed clock ls     lines, each with the next reading
use Rattle.std.specs.Prelude.{ℕ, ◌+◌, List, [], ◌∷◌, map}

pub record Turn : Type 0 where
  pub time : ℕ
  pub line : List ℕ

abbrev pub turn_at : ℕ → List ℕ → Turn
turn_at time line = record { time = time; line = line }

abbrev pub lines_in : List Turn → List (List ℕ)
lines_in ts = map (λ t. t.line) ts

abbrev pub later : (ℕ → ℕ) → ℕ → ℕ
later clock k = clock (k + 1)

abbrev pub timed : (ℕ → ℕ) → List (List ℕ) → List Turn
timed clock [] = []
timed clock (line ∷ ls) = turn_at (clock 0) line ∷ timed (later clock) ls
