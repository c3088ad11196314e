-- Runs over a store.
--     IsFileOf o n ds           the file stands for this history of the name, as it reads
--     GoesOn n ds bytes         bytes stand for a history of the name that begins with these deltas
--     IsStoredFrom o n ds       the file stands for such a history, as it reads and in each image
--     IsThere loaded hs n       the file of the name was loaded, or the name has a delta
--     AreStored files P hs      the file of each name with P stands for its history, as it reads and in each image
--     AreStoredFrom files hs    that of each name that has a delta stands for a history that begins with its own
--     IsFileEither o n ds es    as it reads, and in each image, the file stands for the one history of the name or the other
--     IsEmptiedSince o p        the file reads as empty, and a crash leaves it empty, or as it was before
--     IsFileTried o p n es      the file stands for the empty history of the name or for this one, or is as it was, or emptied
--     IsFileSince o p P         the file stands at both ends of a run, and a crash since the first left what it might have left before, or
--                               what has P
--     IsFileBegun p P           it was made in the run, empty, and a crash since then left it so, or with what has P
--     AreApartIn P              no two names with P have one file
--     AreApartAmong loaded ts   no two have one file, of the names whose files were loaded or to which one of these turns submits
--     IsBeforeIn a b            the files of no container read as before, and a crash leaves no more of them, or what they read
--     IsLoaded a m              the shelf m is a with its files loaded
--     IsClosed a g              the disks of the shelf a were put back into the folder g
--     IsShelfUnloaded, IsShelfRun   what follows, over shelves
--     entered_at folder path f  the paths that the folder f was to enter, and this one after them
--     AreStanding f hs loaded   the files of the folder f stand for these histories, whose names ascend, and those of these names were
--                               loaded
--     IsStoredRun               lines answered over the files of a folder, by whose end these paths were entered
--     IsReadRun P               histories looked at in the files of a folder, with P of them, and the files as before
--     IsStoredAs                the one or the other, by the service
--     IsUnloaded                a run that ended before its first line
use Rattle.std.specs.Prelude.{◌≡◌, ◌≢◌, ◌⊎◌, ◌≤◌, ◌-◌, ◌^◌, min, ℕ, List, [], ◌++◌, Option, Some, None, Bool, true, false, IsTrue, IsSome}
use Rattle.std.specs.Prelude.{IfSome}
use Rattle.std.specs.List.{All}
use Rattle.doc_items.specs.Maps.{Key}
use Rattle.wavelet_op.specs.Deltas.{DeltaOf}
use Rattle.delta_history.specs.Copying.{AreAscending}
use Rattle.disk_model.specs.Disk.{DiskView, Kept}
use Rattle.disk_model.specs.declared.disk.Disk as disk_of
use Rattle.wave_outside.specs.declared.clock.Clock as clock_of
use Rattle.wave_outside.specs.declared.folder.Folder as folder_of
use Rattle.wave_outside.specs.Folders.{Entry, AddsOnly, IsOld, IsPutBack, IsAsBefore, one_entered}
use Rattle.delta_journal.specs.Journal.{on_disk}
use Rattle.wavelet_container.specs.Containers.{history_of, journal_of}
use Rattle.wavelet_container.specs.Records.{StandsForHistory}
use Rattle.line_loop.specs.Lines.{turned, IsPrefix}
use Rattle.line_loop.specs.Output.{IsWritten}
use Rattle.line_loop.specs.Told.{IsRun}
use Rattle.line_loop.specs.Turns.{Turn, lines_in}
use Rattle.wavelet_shelf.specs.Entries.{BeganEmpty}
use Rattle.wavelet_shelf.specs.FileNames.{file_name_of}
use Rattle.wavelet_shelf.specs.Folders.{IsStill, IsStillIn}
use Rattle.wavelet_shelf.specs.Hosting.{Hosted, names_of, deltas_in}
use Rattle.wavelet_shelf.specs.Loads.{IsReadFrom, IsStoredFile, IsSound, IsFirstRefused, HasAll}
use Rattle.wavelet_shelf.specs.Shelves.{in_folder, entries_of, container_in, hosted_of, fault_count, IsKept, IsSettled, AreApart, HasFile}
use Rattle.wavelet_shelf.specs.declared.shelf.Shelf.{Shelf}
use Rattle.pipe_machine.specs.Held.{IsHeld}
use Rattle.pipe_machine.specs.Keeping.{Begins, submitted_in}
use Rattle.pipe_machine.specs.Machine.{start, sent}
use Rattle.pipe_machine.specs.Pipes.{StandsAlong}
use Rattle.wave_program.specs.Damage.{damage_line}
use Rattle.wave_program.specs.Run.{IsServing, IsWhole}
use Rattle.wave_program.specs.Asks.{IsPlayed, IsListed}
use Rattle.wave_program.specs.Pipe.{answers_over, hosted_after, IsOneAtMost}
use Rattle.wave_program.specs.Services.{IsDone}
use Rattle.wave_program.specs.declared.service.Service.{Service}
use Rattle.wave_program.specs.declared.service.Service.TheVariants.{Lines, Play, Inbox}

-- ---- files

abbrev pub GoesOn : Key → List DeltaOf → List ℕ → Type 0
GoesOn n ds bytes = (es : List DeltaOf) × Begins ds es × StandsForHistory n es bytes

pub record StandsFrom (n : Key) (ds : List DeltaOf) (f : DiskView) : Type 0 where
  pub seen : GoesOn n ds f.seen
  pub images : (c : List ℕ) → f.may_leave c → GoesOn n ds c

module _ {D : Type 0} (view : D → DiskView) where
  abbrev pub IsFileOf : Option D → Key → List DeltaOf → Type 0
  IsFileOf None n ds = ⊥
  IsFileOf (Some f) n ds = StandsForHistory n ds (view f).seen

  abbrev pub IsStoredFrom : Option D → Key → List DeltaOf → Type 0
  IsStoredFrom None n ds = ⊥
  IsStoredFrom (Some f) n ds = StandsFrom n ds (view f)

  abbrev pub IsFileSince : Option D → Option D → (List ℕ → Type 0) → Type 0
  IsFileSince None p P = ⊥
  IsFileSince (Some f) None P = ⊥
  IsFileSince (Some f) (Some g) P = AddsOnly (view f) (view g) (λ bytes. IsOld (view f) bytes ⊎ P bytes)

  abbrev pub IsFileBegun : Option D → (List ℕ → Type 0) → Type 0
  IsFileBegun None P = ⊥
  IsFileBegun (Some g) P = BeganEmpty view (view g) P

  abbrev pub AreStored : (List ℕ → Option D) → (Key → Type 0) → List Hosted → Type 0
  AreStored files P hs = (n : Key) → P n → IsStoredFile view (files (file_name_of n)) n (deltas_in hs n)

  abbrev pub AreStoredFrom : (List ℕ → Option D) → List Hosted → Type 0
  AreStoredFrom files hs = (n : Key) → deltas_in hs n ≢ [] → IsStoredFrom (files (file_name_of n)) n (deltas_in hs n)

abbrev pub IsThere : (Key → Bool) → List Hosted → Key → Type 0
IsThere loaded hs n = (loaded n ≡ true) ⊎ (deltas_in hs n ≢ [])

abbrev pub IsFileEither : {D : Type 0} → (D → DiskView) → Option D → Key → List DeltaOf → List DeltaOf → Type 0
IsFileEither view None n ds es = ⊥
IsFileEither view (Some f) n ds es = Kept (view f) (λ bytes. StandsForHistory n ds bytes ⊎ StandsForHistory n es bytes)

-- an image of the file of before, or what a read of it gave
abbrev pub IsOldOf : {D : Type 0} → (D → DiskView) → Option D → List ℕ → Type 0
IsOldOf view None c = ⊥
IsOldOf view (Some f) c = IsOld (view f) c

abbrev pub IsEmptiedSince : {D : Type 0} → (D → DiskView) → Option D → Option D → Type 0
IsEmptiedSince view o None = ⊥
IsEmptiedSince view o (Some g) = ((view g).seen ≡ []) × ((c : List ℕ) → (view g).may_leave c → (c ≡ []) ⊎ IsOldOf view o c)

abbrev pub IsFileTried : {D : Type 0} → (D → DiskView) → Option D → Option D → Key → List DeltaOf → Type 0
IsFileTried view o p n es = IsFileEither view p n [] es ⊎ (IsAsBefore view o p ⊎ IsEmptiedSince view o p)

abbrev pub AreApartIn : (Key → Type 0) → Type 0
AreApartIn P = (n m : Key) → P n → P m → file_name_of n ≡ file_name_of m → n ≡ m

abbrev pub AreApartAmong : (Key → Bool) → List Turn → Type 0
AreApartAmong loaded turns = AreApartIn (λ n. (loaded n ≡ true) ⊎ (submitted_in turns n ≡ true))

-- ---- shelves

module _ {F D : Type 0} {folder : folder_of.Ghosts F D} {disk : disk_of.Ghosts D} where
  -- the files of the folder that are no container's
  abbrev pub IsBeforeIn : Shelf F D folder disk → Shelf F D folder disk → Type 0
  IsBeforeIn a b = IfSome (in_folder a) (λ f. IfSome (in_folder b)
      (λ g. (m : List ℕ) → ((n : Key) → IsSome (container_in b n) → m ≢ file_name_of n)
      → IsAsBefore disk.view (folder.files f m) (folder.files g m)))

  pub record IsLoaded (a m : Shelf F D folder disk) : Type 0 where
    pub read : IsTrue disk.tells → IfSome (in_folder a)
        (λ f. (n : Key) → IfSome (container_in m n) (λ c. IsReadFrom (folder.files f (file_name_of n)) c))
    pub all : IsTrue disk.tells → IfSome (in_folder a) (λ f. HasAll disk.view (folder.files f) (hosted_of m))
    pub sound : IsTrue disk.tells → IfSome (in_folder a) (λ f. (m : List ℕ) → IsSound disk.view (folder.files f m) m)
    pub kept : IsTrue disk.tells → IsKept m × IsSettled m
    pub apart : AreApart m
    pub as_before : IsTrue disk.tells → IsBeforeIn a m
    pub still : IsStillIn folder (in_folder a) (in_folder m)
    pub later : fault_count a ≤ fault_count m

  -- its disks were put back into the folder g
  pub record IsClosed (a : Shelf F D folder disk) (g : F) : Type 0 where
    pub back : IsTrue disk.tells → AreApart a → (n : Key)
        → IfSome (container_in a n) (λ c. IfSome (journal_of c) (λ j. IsPutBack disk.view (on_disk j) (folder.files g (file_name_of n))))
    pub stored : IsKept a → IsSettled a → AreApart a → (n : Key)
        → IfSome (container_in a n) (λ c. IsStoredFile disk.view (folder.files g (file_name_of n)) n (history_of c).deltas)
    pub others : IsTrue disk.tells → IfSome (in_folder a) (λ f. (m : List ℕ) → (HasFile a m → ⊥) → folder.files g m ≡ folder.files f m)
    pub still : IfSome (in_folder a) (λ f. IsStill folder f g)
    pub counted : min (folder.faults g) (2 ^ 64 - 1) ≡ fault_count a

  -- no line was looked at; the sink's count of faults comes last
  pub record IsShelfUnloaded (a b : Shelf F D folder disk) (held0 held1 : Option (List ℕ)) (before now : ℕ) (status : ℕ) : Type 0 where
    pub known : (status ≡ 5) ⊎ ((status ≡ 6) ⊎ (status ≡ 8))
    pub silent : (status ≡ 5) ⊎ (status ≡ 8) → held1 ≡ held0
    pub damaged : status ≡ 6 → (file : List ℕ) × (offset : ℕ) × IsWritten held0 held1 before now (damage_line file offset)
        × (IsTrue disk.tells → IfSome (in_folder a) (λ f. IsFirstRefused disk.view (folder.files f) file offset))
    pub none : entries_of b ≡ []
    pub as_before : IsTrue disk.tells → IsBeforeIn a b
    pub still : IsStillIn folder (in_folder a) (in_folder b)

  pub record IsShelfRun {K : Type 0} (clock : clock_of.Ghosts K) (service : Service) (a b : Shelf F D folder disk) (was : K)
      (left0 left1 held0 held1 : Option (List ℕ)) (status : ℕ) : Type 0 where
    pub shelf : Shelf F D folder disk
    pub loaded : IsLoaded a shelf
    pub done : IsDone clock service shelf b was left0 left1 held0 held1 status

-- ---- runs

abbrev pub entered_at : {F D : Type 0} → folder_of.Ghosts F D → List ℕ → F → List Entry
entered_at folder path f = (one_entered path (folder.log f)).entries

module _ {F D : Type 0} (folder : folder_of.Ghosts F D) (disk : disk_of.Ghosts D) where
  -- the folder before and after it; the sink's count of faults comes last
  pub record IsUnloaded (entries : List Entry) (f g : F) (held0 held1 : Option (List ℕ)) (before now : ℕ) (status : ℕ) : Type 0 where
    pub known : (status ≡ 5) ⊎ ((status ≡ 6) ⊎ (status ≡ 8))
    pub silent : (status ≡ 5) ⊎ (status ≡ 8) → held1 ≡ held0
    pub damaged : status ≡ 6 → (file : List ℕ) × (offset : ℕ) × IsWritten held0 held1 before now (damage_line file offset)
        × IsFirstRefused disk.view (folder.files f) file offset
    pub as_before : (m : List ℕ) → IsAsBefore disk.view (folder.files f m) (folder.files g m)
    -- nothing more was entered; for want of memory, maybe nothing at all
    pub entered : ((folder.log g).entries ≡ entries) ⊎ ((status ≡ 8) × ((folder.log g).entries ≡ (folder.log f).entries))

  pub record AreStanding (f : F) (hosted : List Hosted) (loaded : Key → Bool) : Type 0 where
    pub ascending : AreAscending (names_of hosted)
    pub stand : (n : Key) → loaded n ≡ true → IsFileOf disk.view (folder.files f (file_name_of n)) n (deltas_in hosted n)
    pub are_loaded : (n : Key) → deltas_in hosted n ≢ [] → loaded n ≡ true
    pub all : HasAll disk.view (folder.files f) hosted
    pub sound : (m : List ℕ) → IsSound disk.view (folder.files f m) m
    pub apart : AreApartIn (λ n. loaded n ≡ true)

  -- the folder before and after it
  pub record IsStoredRun {K : Type 0} (clock : clock_of.Ghosts K) (entries : List Entry) (f g : F) (was : K)
      (left0 left1 held0 held1 : Option (List ℕ)) (status : ℕ) : Type 0 where
    -- the histories for which the files stand, and the names whose files were loaded
    pub hosted : List Hosted
    pub loaded : Key → Bool
    pub standing : AreStanding f hosted loaded
    pub entered : (folder.log g).entries ≡ entries
    -- what was read and written
    pub known : IsServing status
    pub run : IsRun clock (answers_over hosted) was left0 left1 held0 held1 status
    -- what was tried after the turns that were answered, if anything
    pub tried : List Turn
    pub lines : IsPrefix (lines_in run.turns ++ lines_in tried) (turned true run.read)
    -- whatever was sent stands in the histories, and these in the files: just these, where no turn failed
    pub held : All (λ s. IsHeld (hosted_after hosted run.turns) s.message) (sent (start hosted) run.turns)
    pub stored : AreApartAmong loaded (run.turns ++ tried)
        → AreStoredFrom disk.view (folder.files g) (hosted_after hosted run.turns)
    pub whole : IsWhole status → AreApartAmong loaded (run.turns ++ tried)
        → AreStored disk.view (folder.files g) (IsThere loaded (hosted_after hosted run.turns)) (hosted_after hosted run.turns)
    -- one turn at most was tried; each file stands for its history before that, or for the one that it leads to
    pub one : IsOneAtMost tried
    pub left : AreApartAmong loaded (run.turns ++ tried) → (n : Key)
        → IsThere loaded (hosted_after hosted run.turns) n
        → IsFileEither disk.view (folder.files g (file_name_of n)) n (deltas_in (hosted_after hosted run.turns) n)
        (deltas_in (hosted_after hosted (run.turns ++ tried)) n)
    -- at whatever moment the run is cut off, a crash leaves each file as it was found, or as a journal of its history after some of the
    -- turns
    pub moments : AreApartAmong loaded (run.turns ++ tried) → (n : Key) → loaded n ≡ true
        → IsFileSince disk.view (folder.files f (file_name_of n)) (folder.files g (file_name_of n))
        (StandsAlong (start hosted) n (run.turns ++ tried))
    -- and so it leaves one that was made, from then on
    pub begun : AreApartAmong loaded (run.turns ++ tried) → (n : Key) → loaded n ≡ false
        → deltas_in (hosted_after hosted run.turns) n ≢ []
        → IsFileBegun disk.view (folder.files g (file_name_of n)) (StandsAlong (start hosted) n (run.turns ++ tried))
    -- the file of a name of which no delta was acknowledged stands for none, or for the one that was tried, or is as it was, or emptied
    pub first : AreApartAmong loaded (run.turns ++ tried) → (n : Key) → loaded n ≡ false
        → submitted_in (run.turns ++ tried) n ≡ true → deltas_in (hosted_after hosted run.turns) n ≡ []
        → IsFileTried disk.view (folder.files f (file_name_of n)) (folder.files g (file_name_of n)) n
        (deltas_in (hosted_after hosted (run.turns ++ tried)) n)
    -- all other files are as they were, but for what a sync settles: also that of a name to which no delta was accepted
    pub others : (m : List ℕ) → ((n : Key) → IsThere loaded (hosted_after hosted (run.turns ++ tried)) n → m ≢ file_name_of n)
        → IsAsBefore disk.view (folder.files f m) (folder.files g m)

  -- the folder before and after it
  pub record IsReadRun (P : List Hosted → Type 0) (entries : List Entry) (f g : F) : Type 0 where
    pub hosted : List Hosted
    pub loaded : Key → Bool
    pub standing : AreStanding f hosted loaded
    pub entered : (folder.log g).entries ≡ entries
    pub answered : P hosted
    pub as_before : (m : List ℕ) → IsAsBefore disk.view (folder.files f m) (folder.files g m)

  abbrev pub IsStoredAs : {K : Type 0} → clock_of.Ghosts K → Service → List Entry → F → F → K
      → (left0 left1 held0 held1 : Option (List ℕ)) → ℕ → Type 0
  IsStoredAs clock Lines entries f g was left0 left1 held0 held1 status = IsStoredRun clock entries f g was left0 left1 held0 held1 status
  IsStoredAs clock (Play wavelet) entries f g was left0 left1 held0 held1 status = IsReadRun
      (λ hs. IsPlayed hs wavelet left0 left1 held0 held1 status) entries f g
  IsStoredAs clock (Inbox user) entries f g was left0 left1 held0 held1 status = IsReadRun
      (λ hs. IsListed hs user left0 left1 held0 held1 status) entries f g
