-- Folders of files.
--     AddsOnly f d P        the same file at two moments, and a crash between them left what it might have left before, or what has P
--     IsSameFile f d        a read of the disk d gives what one of f gave, a crash now leaves no more of it, and one since a moment of
--                           before just as much
--     IsEmptyFile d         the disk reads as empty, and a crash leaves it empty
--     IsHanded view o d     d is the disk of a file as it is handed out: the file's, or an empty one where there was none
--     IsPutBack view d o    the disk d stands in the folder
--     IsImage view o c      a crash may leave these bytes of the file, if it is there
--     IsEmptied view o p    the file reads as empty, and a crash leaves it empty, or as it might have left the one before
--     IsUnmade view o p     the file is the one before, or emptied
--     IsElsewhere n f g     all names but one are as before
--     IsSame f g            all names are
--     AreNames f names      the names of all files
--     IsOld f c             these bytes are an image of before, or what a read gave
--     ReadsAsBefore f g     a read gives the same, and a crash at any moment from f to g left no more than before, or what a read gives
--     IsAsBefore view o p   a file that is there reads so, and no other is there
--     ReadsAlike f g        a read of another disk gives the same, and a crash leaves no more of it than of this one, or what a read gives
--     IsReadAlike view o p      a file that is there reads so, and no other is there
--     FolderLog             the paths that were to be entered, with whether the files were used before each, and whether they were since
--     entered r path l      the log after a call of `enter`; a path counts also where that failed
--     used_log l            the log after any other call
use Rattle.std.specs.Prelude.{◌≡◌, ◌≢◌, ◌⊎◌, ◌≤◌, ℕ, Bool, true, false, List, [], ◌∷◌, ◌++◌, slice_get, Option, Some, None, IsSome, IfSome, Result, Ok, Err}
use Rattle.disk_model.specs.Disk.{DiskView, LeavesJust}
use Rattle.wave_outside.specs.declared.folder.FolderFault.{FolderFault}
use Rattle.wave_outside.specs.declared.folder.FolderFault.TheVariants.{Failed, Memory}

-- a crash from f to d left what it might have left before, or what has P
pub record AddsOnly (f d : DiskView) (P : List ℕ → Type 0) : Type 0 where
  pub later : f.moment ≤ d.moment
  pub since : (t : ℕ) (c : List ℕ) → t ≤ f.moment → d.left_since t c → f.left_since t c ⊎ P c

pub record IsSameFile (f d : DiskView) : Type 0 where
  pub seen : d.seen ≡ f.seen
  pub crash : (c : List ℕ) → d.may_leave c → f.may_leave c
  pub later : f.moment ≤ d.moment
  pub since : (t : ℕ) (c : List ℕ) → t ≤ f.moment → d.left_since t c → f.left_since t c
  pub keeps : (t : ℕ) (c : List ℕ) → t ≤ f.moment → f.left_since t c → d.left_since t c

pub record IsEmptyFile (d : DiskView) : Type 0 where
  pub seen : d.seen ≡ []
  pub crash : LeavesJust [] d

abbrev pub IsHanded : {D : Type 0} → (D → DiskView) → Option D → DiskView → Type 0
IsHanded view None d = IsEmptyFile d
IsHanded view (Some f) d = IsSameFile (view f) d

abbrev pub IsPutBack : {D : Type 0} → (D → DiskView) → DiskView → Option D → Type 0
IsPutBack view d None = ⊥
IsPutBack view d (Some f) = IsSameFile d (view f)

abbrev pub IsImage : {D : Type 0} → (D → DiskView) → Option D → List ℕ → Type 0
IsImage view None c = ⊥
IsImage view (Some f) c = (view f).may_leave c

abbrev pub IsEmptied : {D : Type 0} → (D → DiskView) → Option D → Option D → Type 0
IsEmptied view o None = ⊥
IsEmptied view o (Some g) = ((view g).seen ≡ []) × ((c : List ℕ) → (view g).may_leave c → (c ≡ []) ⊎ IsImage view o c)

abbrev pub IsUnmade : {D : Type 0} → (D → DiskView) → Option D → Option D → Type 0
IsUnmade view o p = (p ≡ o) ⊎ IsEmptied view o p

abbrev pub IsElsewhere : {X : Type 0} → List ℕ → (List ℕ → X) → (List ℕ → X) → Type 0
IsElsewhere n f g = (m : List ℕ) → m ≢ n → g m ≡ f m

abbrev pub IsSame : {X : Type 0} → (List ℕ → X) → (List ℕ → X) → Type 0
IsSame f g = (m : List ℕ) → g m ≡ f m

pub record AreNames {D : Type 0} (files : List ℕ → Option D) (names : List (List ℕ)) : Type 0 where
  pub each : (i : ℕ) → IfSome (slice_get names i) (λ n. IsSome (files n))
  pub all : (n : List ℕ) → IsSome (files n) → (i : ℕ) × (slice_get names i ≡ Some n)

-- ---- what stays

-- an image of before, or what a read gave
abbrev pub IsOld : DiskView → List ℕ → Type 0
IsOld before c = before.may_leave c ⊎ (c ≡ before.seen)

pub record ReadsAsBefore (before now : DiskView) : Type 0 where
  pub seen : now.seen ≡ before.seen
  pub images : (c : List ℕ) → now.may_leave c → IsOld before c
  pub moments : AddsOnly before now (IsOld before)

abbrev pub IsAsBefore : {D : Type 0} → (D → DiskView) → Option D → Option D → Type 0
IsAsBefore view None None = Unit {0}
IsAsBefore view None (Some g) = ⊥
IsAsBefore view (Some f) None = ⊥
IsAsBefore view (Some f) (Some g) = ReadsAsBefore (view f) (view g)

-- ---- files of two folders

pub record ReadsAlike (one other : DiskView) : Type 0 where
  pub seen : other.seen ≡ one.seen
  pub images : (c : List ℕ) → other.may_leave c → IsOld one c

abbrev pub IsReadAlike : {D : Type 0} → (D → DiskView) → Option D → Option D → Type 0
IsReadAlike view None None = Unit {0}
IsReadAlike view None (Some g) = ⊥
IsReadAlike view (Some f) None = ⊥
IsReadAlike view (Some f) (Some g) = ReadsAlike (view f) (view g)

-- ---- paths

-- a path that was to be entered, and whether files were listed, handed out or put back since the one before it
pub record Entry : Type 0 where
  pub path : List ℕ
  pub after_use : Bool

pub record FolderLog : Type 0 where
  pub entries : List Entry
  pub used : Bool

abbrev pub no_entries : FolderLog
no_entries = record { entries = []; used = false }

abbrev pub entry_at : List ℕ → FolderLog → Entry
entry_at path l = record { path = path; after_use = l.used }

abbrev pub one_entered : List ℕ → FolderLog → FolderLog
one_entered path l = record { entries = l.entries ++ entry_at path l ∷ []; used = false }

abbrev pub entered : Result (Unit {0}) FolderFault → List ℕ → FolderLog → FolderLog
entered (Ok done) path l = one_entered path l
entered (Err Failed) path l = one_entered path l
entered (Err Memory) path l = l

abbrev pub used_log : FolderLog → FolderLog
used_log l = record { entries = l.entries; used = true }
