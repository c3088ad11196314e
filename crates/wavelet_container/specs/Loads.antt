-- Histories read from records.
--     IsRead h bytes d      these are the bytes of the delta, which has the hash at the head
--     IsPushed h bytes g    the history grew by a delta of these bytes
--     IsContained n l c     the container has the history that the loaded records make, and their journal
--     IsTurnedDown n l r    they make none: one of them is no next delta, or there was no memory
use Rattle.std.specs.Prelude.{◌≡◌, ℕ, List, Some}
use Rattle.std.specs.List.{AllByRecursion}
use Rattle.wavelet_op.specs.Deltas.{DeltaOf}
use Rattle.wavelet_codec.specs.Spelling.{delta_bytes, IsDelta}
use Rattle.delta_history.specs.Histories.{HistoryOf, head_of, IsGrown}
use Rattle.delta_history.specs.Legal.{IsLegal}
use Rattle.disk_model.specs.declared.disk.Disk.{Ghosts}
use Rattle.delta_journal.specs.Journal.{disk_of}
use Rattle.delta_journal.specs.Stored.{bytes_of}
use Rattle.delta_journal.specs.declared.load.Loaded.{Loaded}
use Rattle.wavelet_container.specs.Containers.{history_of, journal_of}
use Rattle.wavelet_container.specs.Records.{records_of, HasIllegal}
use Rattle.wavelet_container.specs.declared.container.Container.{Container}
use Rattle.wavelet_container.specs.declared.fault.LoadFault.TheVariants.{Damaged, DiskFault}
use Rattle.wavelet_container.specs.declared.load.LoadRefused.{LoadRefused}

pub record IsRead (h : HistoryOf) (bytes : List ℕ) (d : DeltaOf) : Type 0 where
  pub is : IsDelta d
  pub spells : bytes ≡ delta_bytes d
  pub hash : d.from.hash ≡ (head_of h).at.hash

pub record IsPushed (h : HistoryOf) (bytes : List ℕ) (g : HistoryOf) : Type 0 where
  pub delta : DeltaOf
  pub read : IsRead h bytes delta
  pub grown : IsGrown h delta g

pub record IsContained {K : Type 0} {disk : Ghosts K} (name : List ℕ) (loaded : Loaded K disk) (c : Container K disk) : Type 0 where
  pub named : (history_of c).name ≡ name
  pub records : records_of (history_of c).deltas ≡ bytes_of loaded.records
  pub legal : IsLegal name (history_of c).deltas
  pub spelled : AllByRecursion IsDelta (history_of c).deltas
  pub journal : journal_of c ≡ Some loaded.journal

pub record IsTurnedDown {K : Type 0} {disk : Ghosts K} (name : List ℕ) (loaded : Loaded K disk) (r : LoadRefused K) : Type 0 where
  pub damaged : (offset : ℕ) → r.fault ≡ Damaged offset → HasIllegal name offset (bytes_of loaded.records)
  pub no_disk : r.fault ≡ DiskFault → ⊥
  pub disk_is : r.disk ≡ disk_of loaded.journal
