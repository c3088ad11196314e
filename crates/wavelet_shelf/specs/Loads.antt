-- What a folder's files stand for.
--     IsStoredFile view o n ds    the file stands for the history of this name, as it reads and in each image
--     IsReadFrom o c              the file stands for the history of the container, and each image is the file as it was read; until
--                                 then a crash left what it might have left before, or that
--     HasAll view files hs        each file of a wavelet that stands for a history stands for that of its name
--     IsRefusedFile view o f k    the file of this name is no journal of a legal history, by what stands at the offset k: its header is
--                                 no name's; or the name in it is no wavelet's, or that of another file, and k is 0; or it is
--                                 damaged as a journal of this name
--     IsSound view o f            the file of this name isn't refused, if the name is a journal's
--     IsFirstRefused view fs f k  the file of this name is a journal's and refused, and none that comes before it in byte order is
--     IsOpened m d o              what is told of the file of this name, whose disk d was
--     IsUnopened disk m d r       why it wasn't opened
use Rattle.std.specs.Prelude.{◌≡◌, ◌≢◌, ◌⊎◌, ◌≤◌, ℕ, List, [], true, IsTrue, Option, Some, None, IfSome}
use Rattle.std.specs.Cmp.Lexicographic.{slice_cmp}
use Rattle.std.specs.Ordering.{nat_cmp}
use Rattle.std.specs.declared.cmp.Ordering.TheVariants.{Less}
use Rattle.doc_items.specs.Maps.{Key}
use Rattle.wave_base.specs.Grammar.{is_wavelet_name}
use Rattle.wavelet_op.specs.Deltas.{DeltaOf}
use Rattle.disk_model.specs.Disk.{DiskView, LeavesJust, Rose}
use Rattle.disk_model.specs.declared.disk.Disk.{Ghosts}
use Rattle.delta_journal.specs.File.{HasName, HasNoHeader, HasBrokenHeader}
use Rattle.delta_journal.specs.Journal.{on_disk}
use Rattle.delta_journal.specs.declared.journal.Journal.{Journal}
use Rattle.wave_outside.specs.Folders.{AddsOnly, IsOld, ReadsAsBefore}
use Rattle.wavelet_container.specs.Containers.{history_of, journal_of, IsHeld}
use Rattle.wavelet_container.specs.Records.{StandsForHistory, IsDamagedHistory}
use Rattle.wavelet_container.specs.declared.container.Container.{Container}
use Rattle.wavelet_container.specs.declared.fault.LoadFault.TheVariants.{Damaged, DiskFault}
use Rattle.wavelet_container.specs.declared.load.LoadRefused.{LoadRefused}
use Rattle.wavelet_shelf.specs.Entries.{IsSafe}
use Rattle.wavelet_shelf.specs.FileNames.{file_name_of, is_file_name}
use Rattle.wavelet_shelf.specs.Hosting.{Hosted, deltas_in}
use Rattle.wavelet_shelf.specs.declared.opened.Opened.{Opened}
use Rattle.wavelet_shelf.specs.declared.opened.Opened.TheVariants.{Read, Passed}

-- the name in the header is that of this file's wavelet
pub record IsOwnName (name file : List ℕ) : Type 0 where
  pub name_is : is_wavelet_name name ≡ true
  pub file_is : file_name_of name ≡ file

abbrev pub IsRefusedAs : List ℕ → ℕ → List ℕ → List ℕ → Type 0
IsRefusedAs file offset bytes name = (IsOwnName name file × IsDamagedHistory name offset bytes) ⊎ ((IsOwnName name file → ⊥) × (offset ≡ 0))

abbrev pub IsRefused : List ℕ → ℕ → List ℕ → Type 0
IsRefused file offset bytes = (HasBrokenHeader bytes × (offset ≡ 0)) ⊎
    ((name : List ℕ) × HasName (Some name) bytes × IsRefusedAs file offset bytes name)

module _ {K : Type 0} (view : K → DiskView) where
  pub record StandsAs (name : Key) (ds : List DeltaOf) (f : DiskView) : Type 0 where
    pub seen : StandsForHistory name ds f.seen
    pub images : (c : List ℕ) → f.may_leave c → StandsForHistory name ds c

  abbrev pub IsStoredFile : Option K → Key → List DeltaOf → Type 0
  IsStoredFile None name ds = ⊥
  IsStoredFile (Some f) name ds = StandsAs name ds (view f)

  pub record HasAll (files : List ℕ → Option K) (hs : List Hosted) : Type 0 where
    pub each : (n : Key) (ds : List DeltaOf) → is_wavelet_name n ≡ true → ds ≢ []
        → IfSome (files (file_name_of n)) (λ f. StandsForHistory n ds (view f).seen → deltas_in hs n ≡ ds)

  abbrev pub IsRefusedFile : Option K → List ℕ → ℕ → Type 0
  IsRefusedFile None file offset = ⊥
  IsRefusedFile (Some f) file offset = IsRefused file offset (view f).seen

  abbrev pub IsSound : Option K → List ℕ → Type 0
  IsSound o file = is_file_name file ≡ true → (offset : ℕ) → IsRefusedFile o file offset → ⊥

  pub record IsFirstRefused (files : List ℕ → Option K) (file : List ℕ) (offset : ℕ) : Type 0 where
    pub named : is_file_name file ≡ true
    pub refused : IsRefusedFile (files file) file offset
    pub first : (other : List ℕ) → slice_cmp nat_cmp other file ≡ Less → IsSound (files other) other

pub record IsReadAs {K : Type 0} {disk : Ghosts K} (file : DiskView) (c : Container K disk) : Type 0 where
  pub stands : StandsForHistory (history_of c).name (history_of c).deltas file.seen
  pub journal : Journal K disk
  pub is : journal_of c ≡ Some journal
  pub read : (on_disk journal).seen ≡ file.seen
  pub images : LeavesJust file.seen (on_disk journal)
  pub moments : AddsOnly file (on_disk journal) (IsOld file)

abbrev pub IsReadFrom : {K : Type 0} {disk : Ghosts K} → Option K → Container K disk → Type 0
IsReadFrom None c = ⊥
IsReadFrom {K} {disk} (Some f) c = IsReadAs (disk.view f) c

-- ---- one file, as its disk is handed out

pub record IsOpenedAs {K : Type 0} {disk : Ghosts K} (m : List ℕ) (file : DiskView) (name : Key) (c : Container K disk) : Type 0 where
  pub own : IsOwnName name m
  pub named : (history_of c).name ≡ name
  pub header : IsTrue disk.tells → HasName (Some name) file.seen
  pub read : IsTrue disk.tells → IsReadAs file c
  pub held : IsTrue disk.tells → IsHeld c
  pub safe : IsTrue disk.tells → IsSafe c

pub record IsPassedAs {K : Type 0} (disk : Ghosts K) (file : DiskView) (k : K) : Type 0 where
  pub none : IsTrue disk.tells → HasNoHeader file.seen
  pub as_before : ReadsAsBefore file (disk.view k)
  pub faults : file.faults ≤ (disk.view k).faults

abbrev pub IsOpened : {K : Type 0} {disk : Ghosts K} → List ℕ → DiskView → Opened K disk → Type 0
IsOpened m file (Read name c) = IsOpenedAs m file name c
IsOpened {K} {disk} m file (Passed k) = IsPassedAs disk file k

pub record IsUnopened {K : Type 0} (disk : Ghosts K) (m : List ℕ) (file : DiskView) (r : LoadRefused K) : Type 0 where
  pub damaged : (offset : ℕ) → r.fault ≡ Damaged offset → IsTrue disk.tells → IsRefused m offset file.seen
  pub as_before : ReadsAsBefore file (disk.view r.disk)
  pub faults : file.faults ≤ (disk.view r.disk).faults
  pub failed : r.fault ≡ DiskFault → Rose file (disk.view r.disk)
