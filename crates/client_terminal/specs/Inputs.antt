-- The lines of an input.
--     ended_by l bs       the lines that end in some bytes, where a line has begun
--     open_by l bs        the line that is then open
--     input_lines bs      all lines of an input: the last one may lack its line feed, but has a byte then
--     IsRead bs ls l      these bytes gave these lines, and left this one open
use Rattle.std.specs.Prelude.{◌≡◌, ℕ, ◌==◌, cond, List, [], ◌∷◌, ◌++◌}

abbrev pub ended_by : List ℕ → List ℕ → List (List ℕ)
ended_by line [] = []
ended_by line (b ∷ bs) = cond (b == 10) (line ∷ ended_by [] bs) (ended_by (line ++ b ∷ []) bs)

abbrev pub open_by : List ℕ → List ℕ → List ℕ
open_by line [] = line
open_by line (b ∷ bs) = cond (b == 10) (open_by [] bs) (open_by (line ++ b ∷ []) bs)

abbrev pub last_of : List ℕ → List (List ℕ)
last_of [] = []
last_of (b ∷ line) = (b ∷ line) ∷ []

abbrev pub input_lines : List ℕ → List (List ℕ)
input_lines bytes = ended_by [] bytes ++ last_of (open_by [] bytes)

pub record IsRead (bytes : List ℕ) (ls : List (List ℕ)) (line : List ℕ) : Type 0 where
  pub ended : (rest : List ℕ) → ended_by [] (bytes ++ rest) ≡ ls ++ ended_by line rest
  pub begun : (rest : List ℕ) → open_by [] (bytes ++ rest) ≡ open_by line rest
