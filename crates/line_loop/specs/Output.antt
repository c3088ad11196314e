-- What a write of some bytes leaves: `IsWritten`, all of them unless the sink's count of faults rose.
use Rattle.std.specs.Prelude.{◌≡◌, ℕ, List, Option, take}
use Rattle.std.specs.Io.KnownBytes.{Appends}
use Rattle.wave_outside.specs.Counts.{Rose}

-- a front of the bytes was written, and all of them if the count, from before to now, did not rise
abbrev pub IsWritten : (old new : Option (List ℕ)) (before now : ℕ) → List ℕ → Type 0
IsWritten old new before now bytes = (k : ℕ) × Appends old new (take k bytes) × ((Rose before now → ⊥) → take k bytes ≡ bytes)
