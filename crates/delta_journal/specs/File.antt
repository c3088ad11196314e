-- The journal file. `header`, `framed`, `blocks` and `opened` are its bytes, `StandsFor` is what a file stands for
-- under a name and `IsDamaged` where it stands for nothing, `HasName` and `HasBrokenHeader` are what it says of its
-- name. `MeansOnce` and `NamedOnce` are the laws on these.
--
-- A gate is one byte: 1 is open, all else is closed. The header's gate comes first, then `WAVEJNL1`, the length of
-- the name as four bytes with the highest first, and the name. A record is a gate, the length of its bytes as eight
-- bytes, and the bytes. A file stands for the records before the first gate that is closed, and for no header where
-- it has fewer than two bytes or its first gate is closed. What is after a closed gate means nothing.
use Rattle.std.specs.Prelude.{◌≡◌, ◌≢◌, ◌⊎◌, ℕ, ◌+◌, ◌^◌, ◌<◌, ◌≤◌, List, [], ◌∷◌, ◌++◌, length, codes, Option, Some, None, Result, Ok, Err}
use Rattle.std.specs.Int.{w32, w64, to_be_bytes}

-- the header after its gate
abbrev pub header : List ℕ → List ℕ
header name = codes "WAVEJNL1" ++ (to_be_bytes w32 (length name) ++ name)

-- a record after its gate
abbrev pub framed : List ℕ → List ℕ
framed bytes = to_be_bytes w64 (length bytes) ++ bytes

-- open records
abbrev pub blocks : List (List ℕ) → List ℕ
blocks [] = []
blocks (bytes ∷ records) = 1 ∷ (framed bytes ++ blocks records)

-- an open header and open records
abbrev pub opened : List ℕ → List (List ℕ) → List ℕ
opened name records = 1 ∷ (header name ++ blocks records)

-- these bytes, then a closed gate, and then anything
pub record Closed (front file : List ℕ) : Type 0 where
  pub gate : ℕ
  pub tail : List ℕ
  pub split : file ≡ front ++ gate ∷ tail
  pub shut : gate ≢ 1

-- the file has fewer than two bytes, or its first gate is closed
abbrev pub HasNoHeader : List ℕ → Type 0
HasNoHeader file = (length file < 2) ⊎ Closed [] file

-- what a file stands for under this name
abbrev pub StandsFor : List ℕ → List (List ℕ) → List ℕ → Type 0
StandsFor name records file = ((records ≡ []) × HasNoHeader file) ⊎ Closed (opened name records) file

-- after an open gate stand these bytes, and a gate after them
abbrev pub IsWhole : List ℕ → List ℕ → Type 0
IsWhole block rest = (gate : ℕ) × (tail : List ℕ) × (rest ≡ block ++ gate ∷ tail)

-- after an open gate stands no whole record
abbrev pub HasNoRecord : List ℕ → Type 0
HasNoRecord rest = (bytes : List ℕ) → length bytes < 2 ^ 64 → IsWhole (framed bytes) rest → ⊥

-- from the gate at `place` on: after some records is an open gate at `offset`, and no whole record after that
abbrev pub IsTornFrom : ℕ → ℕ → List ℕ → Type 0
IsTornFrom place offset file = (records : List (List ℕ)) × (rest : List ℕ) × (offset ≡ place + length (blocks records))
    × (file ≡ blocks records ++ 1 ∷ rest) × HasNoRecord rest

-- the first gate is open, and the header after it isn't this name's
abbrev pub HasOtherHeader : List ℕ → List ℕ → Type 0
HasOtherHeader name file = (rest : List ℕ) × (file ≡ 1 ∷ rest) × (2 ≤ length file) × (IsWhole (header name) rest → ⊥)

-- the header is this name's, and after it is a record that isn't whole, whose gate is at `offset`
abbrev pub HasTornRecord : List ℕ → ℕ → List ℕ → Type 0
HasTornRecord name offset file = (rest : List ℕ) × (file ≡ (1 ∷ header name) ++ rest) × IsTornFrom (length (1 ∷ header name)) offset rest

-- a file is damaged at 0 where its header isn't this name's, and else at the gate of a record that isn't whole
abbrev pub IsDamaged : List ℕ → ℕ → List ℕ → Type 0
IsDamaged name offset file = ((offset ≡ 0) × HasOtherHeader name file) ⊎ HasTornRecord name offset file

-- what a file means under this name: records, or damage at an offset
abbrev pub Means : List ℕ → List ℕ → Result (List (List ℕ)) ℕ → Type 0
Means name file (Ok records) = StandsFor name records file
Means name file (Err offset) = IsDamaged name offset file

-- the law: a file means one thing
abbrev pub MeansOnce : Type 0
MeansOnce = (name file : List ℕ) (one other : Result (List (List ℕ)) ℕ) → length file < 2 ^ 64 → Means name file one → Means name file other
    → one ≡ other

-- the name in a file's header; None where the file stands for no header
abbrev pub HasName : Option (List ℕ) → List ℕ → Type 0
HasName None file = HasNoHeader file
HasName (Some name) file = (rest : List ℕ) × (file ≡ 1 ∷ rest) × (length name < 2 ^ 32) × IsWhole (header name) rest

-- the first gate is open, and the header after it is no name's
abbrev pub HasBrokenHeader : List ℕ → Type 0
HasBrokenHeader file = (rest : List ℕ) × (file ≡ 1 ∷ rest) × (2 ≤ length file)
    × ((name : List ℕ) → length name < 2 ^ 32 → IsWhole (header name) rest → ⊥)

-- the law: a file has one name or none, or its header is broken
pub record NamedOnce : Type 0 where
  pub one : (file : List ℕ) (one other : Option (List ℕ)) → HasName one file → HasName other file → one ≡ other
  pub not_broken : (file : List ℕ) (name : Option (List ℕ)) → HasName name file → HasBrokenHeader file → ⊥

-- these records, or these and more
abbrev pub StandsForEither : List ℕ → List (List ℕ) → List (List ℕ) → List ℕ → Type 0
StandsForEither name records more file = StandsFor name records file ⊎ StandsFor name (records ++ more) file
