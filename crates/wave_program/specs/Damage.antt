-- A file that isn't the journal of a legal history.
--     damage_line f k     the line that tells of the file f and of the offset k
use Rattle.std.specs.Prelude.{ℕ, List, ◌++◌, codes, decimal}

abbrev pub damage_line : List ℕ → ℕ → List ℕ
damage_line file offset = codes "damaged " ++ file ++ codes " " ++ decimal offset ++ codes "\n"
