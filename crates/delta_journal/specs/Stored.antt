-- Records as they are stored: `bytes_of` are their bytes, `StandFrom` says where their gates are.
use Rattle.std.specs.Prelude.{◌≡◌, ℕ, ◌+◌, List, [], ◌∷◌, length}
use Rattle.delta_journal.specs.File.{framed}
use Rattle.delta_journal.specs.declared.stored.Stored.{Stored}

-- the bytes of each
abbrev pub bytes_of : List Stored → List (List ℕ)
bytes_of [] = []
bytes_of (one ∷ records) = one.bytes ∷ bytes_of records

-- the first one's gate is at `place`, and each further one's after the record before it
abbrev pub StandFrom : ℕ → List Stored → Type 0
StandFrom place [] = Unit {0}
StandFrom place (one ∷ records) = (one.offset ≡ place) × StandFrom (place + length (1 ∷ framed one.bytes)) records
