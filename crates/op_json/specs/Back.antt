-- What is written is read back.
--     IsReadBack read write x         what is written of x is read as x
--     AreReadBack read write xs       so of each
use Rattle.std.specs.Prelude.{◌≡◌, List, Option, Some, map}
use Rattle.serde_json.specs.Data.{Data}

module _ {X : Type 0} (read : Data → Option X) (write : X → Data) where
  abbrev pub IsReadBack : X → Type 0
  IsReadBack x = read (write x) ≡ Some x

  abbrev pub AreReadBack : List X → Type 0
  AreReadBack xs = map (λ x. read (write x)) xs ≡ map Some xs
