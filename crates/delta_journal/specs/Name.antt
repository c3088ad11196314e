-- What the first bytes of a file tell of its name.
use Rattle.std.specs.Prelude.{◌≡◌, ℕ, ◌+◌, ◌<◌, ◌≤◌, List, ◌∷◌, ◌++◌, length, take, codes}
use Rattle.std.specs.Int.{w32, to_be_bytes}
use Rattle.delta_journal.specs.File.{HasNoHeader, HasBrokenHeader}
use Rattle.delta_journal.specs.declared.name.Header.{Header}
use Rattle.delta_journal.specs.declared.name.Header.TheVariants.{Missing, Broken, Named}

-- the gate, the mark and the length of a name
abbrev pub named_front : ℕ → List ℕ
named_front count = 1 ∷ (codes "WAVEJNL1" ++ to_be_bytes w32 count)

-- these are the first bytes, up to 13, of a file of this length
pub record IsFront (front : List ℕ) (size : ℕ) (file : List ℕ) : Type 0 where
  pub size_is : size ≡ length file
  pub two : 2 ≤ size
  pub front_is : front ≡ take 13 file

-- a header that is named has room for its name and a gate after that
abbrev pub TellsName : Header → List ℕ → Type 0
TellsName Missing file = HasNoHeader file
TellsName Broken file = HasBrokenHeader file
TellsName (Named count) file = (13 + count < length file) × (take 13 file ≡ named_front count)
