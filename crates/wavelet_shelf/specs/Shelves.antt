-- A shelf, as contracts see it.
--     in_folder s            its folder
--     container_in s n       the container of the name
--     hosted_of s            the histories that have a delta
--     folder_faults faults o     how often the folder has failed, where there is one
--     fault_sum s            how often its folder and its disks have failed, added
--     fault_count s          the same, but no more than the greatest u64
--     IsKept s               over a folder whose disks tell their bytes: each history stands in a journal
--     IsSettled s            each history stands in its file as that reads, and in each image of it, and no repair is pending
--     AreApart s             no two names have one file
--     HasFile s m            this is the file of one of its names
--     IsNewFile s n x t m    this is the file of a name that isn't there, and the submission's delta is accepted as its first
--     IsOneMoreOf s n x t f  the file stands for the history of the name, or for it and the delta of a submission that is accepted
--     copies_of s n          the history of the name, where it has a delta
--     outcome_of s n i       the acknowledgement that it keeps for the id
use Rattle.std.specs.Prelude.{◌≡◌, ℕ, ◌+◌, ◌-◌, ◌^◌, min, List, [], ◌∷◌, Option, Some, None, IsSome, IsTrue}
use Rattle.std.specs.Option.{option_and_then, option_map}
use Rattle.doc_items.specs.Maps.{Key}
use Rattle.wave_base.specs.Versions.{IdOf}
use Rattle.wavelet_op.specs.Deltas.{DeltaOf}
use Rattle.wavelet_op.specs.declared.delta.Submission.{Submission}
use Rattle.wavelet_op.specs.declared.verdict.Verdict.{Verdict}
use Rattle.wavelet_op.specs.declared.verdict.Verdict.TheVariants.{Ack}
use Rattle.delta_history.specs.declared.kept.Kept.{Kept}
use Rattle.delta_history.specs.Copying.{kept_in}
use Rattle.delta_history.specs.Histories.{HistoryOf}
use Rattle.disk_model.specs.declared.disk.Disk as disk_of
use Rattle.wave_outside.specs.declared.folder.Folder as folder_of
use Rattle.wavelet_container.specs.Containers.{history_of}
use Rattle.wavelet_container.specs.Stores.{StandsForOneMore}
use Rattle.wavelet_container.specs.declared.container.Container.{Container}
use Rattle.wavelet_shelf.specs.Entries.{found, hosting, faults_in, AreHeld, AreSafe}
use Rattle.wavelet_shelf.specs.FileNames.{file_name_of}
use Rattle.wavelet_shelf.specs.Hosting.{Hosted, deltas_in, judged_in}
use Rattle.wavelet_shelf.specs.declared.filed.Filed.{Filed}
use Rattle.wavelet_shelf.specs.declared.shelf.Shelf.{Shelf}

abbrev pub shown_of : HistoryOf → List DeltaOf → Option HistoryOf
shown_of h [] = None
shown_of h (d ∷ ds) = Some h

-- the history, where it has a delta
abbrev pub shown_copy : HistoryOf → Option HistoryOf
shown_copy h = shown_of h h.deltas

abbrev pub acknowledged : Kept → Verdict
acknowledged k = Ack k.at k.to

abbrev pub folder_faults : {F : Type 0} → (F → ℕ) → Option F → ℕ
folder_faults faults None = 0
folder_faults faults (Some f) = faults f

module _ {F D : Type 0} {folder : folder_of.Ghosts F D} {disk : disk_of.Ghosts D} where
  abbrev pub entries_of : Shelf F D folder disk → List (Key × Filed D disk)
  entries_of s = s.containers.map.entries

  abbrev pub in_folder : Shelf F D folder disk → Option F
  in_folder s = s.folder

  abbrev pub container_in : Shelf F D folder disk → Key → Option (Container D disk)
  container_in s n = found (entries_of s) n

  abbrev pub hosted_of : Shelf F D folder disk → List Hosted
  hosted_of s = hosting (entries_of s)

  abbrev pub fault_sum : Shelf F D folder disk → ℕ
  fault_sum s = folder_faults folder.faults (in_folder s) + faults_in (entries_of s)

  abbrev pub fault_count : Shelf F D folder disk → ℕ
  fault_count s = min (fault_sum s) (2 ^ 64 - 1)

  pub record IsKept (s : Shelf F D folder disk) : Type 0 where
    pub told : IsTrue disk.tells
    pub filed : IsSome (in_folder s)
    pub held : AreHeld (entries_of s)

  abbrev pub IsSettled : Shelf F D folder disk → Type 0
  IsSettled s = AreSafe (entries_of s)

  abbrev pub AreApart : Shelf F D folder disk → Type 0
  AreApart s = (n m : Key) → IsSome (container_in s n) → IsSome (container_in s m) → file_name_of n ≡ file_name_of m → n ≡ m

  abbrev pub HasFile : Shelf F D folder disk → List ℕ → Type 0
  HasFile s m = (n : Key) × IsSome (container_in s n) × (file_name_of n ≡ m)

  abbrev pub IsNewFile : Shelf F D folder disk → Key → Submission → ℕ → List ℕ → Type 0
  IsNewFile s n x t m = (container_in s n ≡ None) × IsSome (judged_in (hosted_of s) n x t).1 × (m ≡ file_name_of n)

  abbrev pub IsOneMoreOf : Shelf F D folder disk → Key → Submission → ℕ → List ℕ → Type 0
  IsOneMoreOf s n x t = StandsForOneMore n (deltas_in (hosted_of s) n) (λ d. (judged_in (hosted_of s) n x t).1 ≡ Some d)

  abbrev pub copies_of : Shelf F D folder disk → Key → Option HistoryOf
  copies_of s n = option_and_then (λ c. shown_copy (history_of c)) (container_in s n)

  abbrev pub outcome_of : Shelf F D folder disk → Key → IdOf → Option Verdict
  outcome_of s n i = option_map acknowledged (kept_in (copies_of s n) i)
