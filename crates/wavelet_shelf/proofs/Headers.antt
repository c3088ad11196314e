-- A file that stands for a record has its name in the header.
use Rattle.std.proofs.Common.{◌≢◌, inl, inr, ℕ, ◌<◌, ◌^◌, List, [], ◌∷◌, ◌++◌, length, Some, refl}
use Rattle.std.proofs.lemmas.List.{append_assoc}
use Rattle.delta_journal.specs.File.{StandsFor, HasName, IsWhole, header, framed, blocks}

whole : (n : List ℕ) (records : List (List ℕ)) (gate : ℕ) (tail : List ℕ) → records ≢ [] → IsWhole (header n) ((header n ++ blocks records) ++ gate ∷ tail)
whole n [] gate tail some = absurd (some refl)
whole n (bytes ∷ records) gate tail some = (1, (framed bytes ++ blocks records) ++ gate ∷ tail, append_assoc (header n) (blocks (bytes ∷ records)) (gate ∷ tail))

pub name_in : (n : List ℕ) (records : List (List ℕ)) (file : List ℕ) → length n < 2 ^ 32 → records ≢ [] → StandsFor n records file → HasName (Some n) file
name_in n records file short some (inl none) = absurd (some none.0)
name_in n records file short some (inr closed) = ((header n ++ blocks records) ++ closed.gate ∷ closed.tail, closed.split, short, whole n records closed.gate closed.tail some)
