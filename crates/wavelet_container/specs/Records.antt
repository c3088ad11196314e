-- Histories as the records of a journal.
--     records_of ds            the bytes of the deltas
--     StandsForHistory n ds f  under this name the file stands for this legal history
--     IsIllegal n ds bytes     these bytes are those of no delta that may come next
--     HasIllegal n o records   one of the records is no next delta of a legal history, and the gate of the first such is at this
--                              offset
--     IsDamagedHistory n o f   the file is no journal of a legal history, by what stands at the offset
--     HistoryIsOne             the law: a file stands for one legal history at most
--     HistoryIsWhole           the law: a file that stands for one isn't damaged
use Rattle.std.specs.Prelude.{◌≡◌, ◌⊎◌, ◌^◌, ◌<◌, ℕ, List, ◌∷◌, ◌++◌, length, map}
use Rattle.std.specs.List.{AllByRecursion}
use Rattle.wavelet_op.specs.Deltas.{DeltaOf}
use Rattle.wavelet_codec.specs.Spelling.{delta_bytes, IsDelta}
use Rattle.delta_history.specs.Legal.{IsNext, IsLegal}
use Rattle.delta_journal.specs.File.{opened, StandsFor, IsDamaged}

abbrev pub records_of : List DeltaOf → List (List ℕ)
records_of ds = map delta_bytes ds

pub record StandsForHistory (name : List ℕ) (ds : List DeltaOf) (file : List ℕ) : Type 0 where
  pub stands : StandsFor name (records_of ds) file
  pub legal : IsLegal name ds
  pub spelled : AllByRecursion IsDelta ds

abbrev pub IsIllegal : List ℕ → List DeltaOf → List ℕ → Type 0
IsIllegal name ds bytes = (d : DeltaOf) → IsDelta d → bytes ≡ delta_bytes d → IsNext name ds d → ⊥

pub record HasIllegal (name : List ℕ) (offset : ℕ) (records : List (List ℕ)) : Type 0 where
  pub front : List DeltaOf
  pub bytes : List ℕ
  pub rest : List (List ℕ)
  pub whole : records_of front ++ bytes ∷ rest ≡ records
  pub legal : IsLegal name front
  pub spelled : AllByRecursion IsDelta front
  pub illegal : IsIllegal name front bytes
  pub gate : offset ≡ length (opened name (records_of front))

abbrev pub IsDamagedHistory : List ℕ → ℕ → List ℕ → Type 0
IsDamagedHistory name offset file = IsDamaged name offset file ⊎
    ((records : List (List ℕ)) × StandsFor name records file × HasIllegal name offset records)

abbrev pub HistoryIsOne : Type 0
HistoryIsOne = (name file : List ℕ) (ds es : List DeltaOf) → length file < 2 ^ 64 → StandsForHistory name ds file
    → StandsForHistory name es file → ds ≡ es

abbrev pub HistoryIsWhole : Type 0
HistoryIsWhole = (name file : List ℕ) (ds : List DeltaOf) (offset : ℕ) → length file < 2 ^ 64 → StandsForHistory name ds file
    → IsDamagedHistory name offset file → ⊥
