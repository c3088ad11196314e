-- The limit of all counts.
--     max_count      the greatest count, version, time or length of a document
use Rattle.std.specs.Prelude.{ℕ}

abbrev pub max_count : ℕ
max_count = 9007199254740991
