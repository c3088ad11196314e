-- The command `load`.
--     load_line n                  what it writes: the summary of the load of a number, as a line
--     IsFront text old new         a front of the text was written, and not all of it
--     IsLoaded n s old new         a load that ended with a status wrote this
use Rattle.std.specs.Prelude.{◌≡◌, ℕ, ◌<◌, List, Option, length, take, ◌⊎◌}
use Rattle.std.specs.Io.KnownBytes.{Appends}
use Rattle.load_script.specs.Line.{line}
use Rattle.load_script.specs.Loads.{loaded, summary}

unfoldable pub load_line : ℕ → List ℕ
load_line n = line n (summary (loaded n))

abbrev pub IsFront : List ℕ → (old new : Option (List ℕ)) → Type 0
IsFront text old new = (k : ℕ) × (k < length text) × Appends old new (take k text)

pub record IsLoaded (n status : ℕ) (old new : Option (List ℕ)) : Type 0 where
  pub done : status ≡ 0 → Appends old new (load_line n)
  pub sink_failed : status ≡ 4 → IsFront (load_line n) old new
  pub memory : status ≡ 8 → new ≡ old
  pub known : (status ≡ 0) ⊎ ((status ≡ 4) ⊎ (status ≡ 8))
