-- Folders whose disks are handed out and put back.
--     most_faults                where counts stay
--     IsBack f e                 the disk of the entry, if it has one, stands in the folder
--     AreFiledApart es           no two entries have one file
--     ArePutBack f g es          the disks of the entries were put back
--     IsOneBack f g m c          the disk of a container was put back, into the file of this name
--     IsFileRead f g m es es'    the file was read: its history came to the others, or it stands for none
--     IsFileBack f g m           the file wasn't read and is put back, and reads as before
--     faults_with f es           how often the folder and the disks have failed
--     IsFileStep f g m es es' r  what came of a file
--     IsAllStep f g es ms r      what came of all
--     IsLoadedAs f g es r        what comes of a folder's files
--     is_among names m           the name is one of them
--     IsStill f g                no path was entered from the folder f to the folder g, where it tells that
--     IsStillIn o p              a folder before and after, and no path was entered; or none in both
--     IsUsed may f g             no path was entered from f to g, and at most the files for which this holds changed
--     IsUsedIn may o p           a folder before and after was used in this way; or there is none in both
--     IsUnmadeIn m o p           the file of this name stands in the folder as it was, or emptied; or there is no folder in both
--     IsFirstAmong f names m k   of the files of these names this one is a journal's and refused, and none before it
--     IsLooked f g es done       of the folder f these files were looked at, and those of the entries were read
--     IsLoading f g es done      and the entries have each history for which one of these stands, and none of these is refused
use Rattle.std.specs.Prelude.{◌≡◌, ◌≢◌, ◌⊎◌, ◌+◌, ◌-◌, ◌^◌, ◌≤◌, min, ℕ, Bool, true, false, List, [], ◌∷◌, Option, Some, None, Result, IsSome, IfSome, IsTrue, IfErr, OnOk, OnErr, IsErrOf}
use Rattle.std.specs.Cmp.Lexicographic.{slice_cmp}
use Rattle.std.specs.List.{AllByRecursion, list_any}
use Rattle.std.specs.Ordering.{nat_cmp}
use Rattle.std.specs.declared.cmp.Ordering.TheVariants.{Less}
use Rattle.doc_items.specs.Maps.{Key, same_text}
use Rattle.wave_base.specs.Grammar.{is_wavelet_name}
use Rattle.wavelet_op.specs.Deltas.{DeltaOf}
use Rattle.disk_model.specs.declared.disk.Disk as disk_of
use Rattle.delta_journal.specs.File.{HasName, HasNoHeader}
use Rattle.delta_journal.specs.Journal.{on_disk}
use Rattle.wave_outside.specs.Counts.{Rose}
use Rattle.wave_outside.specs.Folders.{IsPutBack, IsUnmade, IsElsewhere, IsSame, IsAsBefore}
use Rattle.wave_outside.specs.declared.folder.Folder as folder_of
use Rattle.wavelet_container.specs.Containers.{journal_of, IsHeld}
use Rattle.wavelet_container.specs.Records.{StandsForHistory}
use Rattle.wavelet_container.specs.declared.container.Container.{Container}
use Rattle.wavelet_shelf.specs.Entries.{found, hosting, faults_of, faults_in, AreHeld, AreSafe, IsSafe, IsNamed, IsPut}
use Rattle.wavelet_shelf.specs.Faults.{damage_of}
use Rattle.wavelet_shelf.specs.FileNames.{file_name_of, is_file_name}
use Rattle.wavelet_shelf.specs.Hosting.{deltas_in}
use Rattle.wavelet_shelf.specs.Loads.{IsReadFrom, IsOwnName, IsRefusedFile, IsSound, IsFirstRefused, HasAll}
use Rattle.wavelet_shelf.specs.declared.fault.ShelfFault.{ShelfFault}
use Rattle.wavelet_shelf.specs.declared.fault.ShelfFault.TheVariants.{Failed}
use Rattle.wavelet_shelf.specs.declared.filed.Filed.{Filed}

abbrev pub most_faults : ℕ
most_faults = 2 ^ 64 - 1

abbrev pub is_among : List (List ℕ) → List ℕ → Bool
is_among names m = list_any (same_text m) names

module _ {F D : Type 0} (folder : folder_of.Ghosts F D) where
  abbrev pub IsStill : F → F → Type 0
  IsStill before after = IsTrue folder.tells → (folder.log after).entries ≡ (folder.log before).entries

  abbrev pub IsStillIn : Option F → Option F → Type 0
  IsStillIn None None = Unit {0}
  IsStillIn None (Some g) = ⊥
  IsStillIn (Some f) None = ⊥
  IsStillIn (Some f) (Some g) = IsStill f g

  pub record IsUsed (may : List ℕ → Type 0) (before after : F) : Type 0 where
    pub still : IsStill before after
    pub others : IsTrue folder.tells → (m : List ℕ) → (may m → ⊥) → folder.files after m ≡ folder.files before m

  abbrev pub IsUsedIn : (List ℕ → Type 0) → Option F → Option F → Type 0
  IsUsedIn may None None = Unit {0}
  IsUsedIn may None (Some g) = ⊥
  IsUsedIn may (Some f) None = ⊥
  IsUsedIn may (Some f) (Some g) = IsUsed may f g

module _ {F D : Type 0} (folder : folder_of.Ghosts F D) (disk : disk_of.Ghosts D) where
  abbrev pub IsUnmadeIn : List ℕ → Option F → Option F → Type 0
  IsUnmadeIn m None None = Unit {0}
  IsUnmadeIn m None (Some g) = ⊥
  IsUnmadeIn m (Some f) None = ⊥
  IsUnmadeIn m (Some f) (Some g) = IsTrue folder.tells → IsUnmade disk.view (folder.files f m) (folder.files g m)

pub record IsFirstAmong {F D : Type 0} (folder : folder_of.Ghosts F D) (disk : disk_of.Ghosts D) (f : F) (names : List (List ℕ))
    (m : List ℕ) (offset : ℕ) : Type 0 where
  pub named : is_file_name m ≡ true
  pub refused : IsRefusedFile disk.view (folder.files f m) m offset
  pub first : (l : List ℕ) → is_among names l ≡ true → slice_cmp nat_cmp l m ≡ Less → IsSound disk.view (folder.files f l) l

pub record IsFileBack {F D : Type 0} (folder : folder_of.Ghosts F D) (disk : disk_of.Ghosts D) (before after : F)
    (m : List ℕ) : Type 0 where
  pub back : IsTrue disk.tells → IsSome (folder.files before m) → IsAsBefore disk.view (folder.files before m) (folder.files after m)
  pub others : IsTrue disk.tells → IsElsewhere m (folder.files before) (folder.files after)

module _ {F D : Type 0} (folder : folder_of.Ghosts F D) {disk : disk_of.Ghosts D} where
  abbrev pub IsBack : F → Key × Filed D disk → Type 0
  IsBack f e = IfSome (journal_of e.1.container) (λ j. IsPutBack disk.view (on_disk j) (folder.files f (file_name_of e.0)))

  abbrev pub AreFiledApart : List (Key × Filed D disk) → Type 0
  AreFiledApart [] = Unit {0}
  AreFiledApart (e ∷ es) = AllByRecursion (λ x. file_name_of x.0 ≢ file_name_of e.0) es × AreFiledApart es

  pub record IsOneBack (before after : F) (m : List ℕ) (c : Container D disk) : Type 0 where
    pub there : IsTrue disk.tells → IfSome (journal_of c) (λ j. IsPutBack disk.view (on_disk j) (folder.files after m))
    pub others : IsTrue disk.tells → IsElsewhere m (folder.files before) (folder.files after)
    pub room : IsSame (folder.room before) (folder.room after)
    pub still : IsStill folder before after
    pub counted : min (folder.faults after) most_faults ≡ min (folder.faults before + faults_of c) most_faults

  pub record ArePutBack (before after : F) (es : List (Key × Filed D disk)) : Type 0 where
    pub back : IsTrue disk.tells → AreFiledApart es → AllByRecursion (IsBack after) es
    pub others : IsTrue disk.tells → (m : List ℕ) → AllByRecursion (λ e. m ≢ file_name_of e.0) es → folder.files after m
        ≡ folder.files before m
    pub room : IsSame (folder.room before) (folder.room after)
    pub still : IsStill folder before after
    pub counted : min (folder.faults after) most_faults ≡ min (folder.faults before + faults_in es) most_faults

  -- ---- one file

  pub record IsPassed (before after : F) (m : List ℕ) (es es' : List (Key × Filed D disk)) : Type 0 where
    pub same : es' ≡ es
    pub file : IsTrue disk.tells → IfSome (folder.files before m) (λ d. HasNoHeader (disk.view d).seen)
    pub back : IsTrue disk.tells → IsAsBefore disk.view (folder.files before m) (folder.files after m)

  pub record IsAdded (before after : F) (m : List ℕ) (es es' : List (Key × Filed D disk)) : Type 0 where
    pub name : Key
    pub filed : Filed D disk
    pub own : IsOwnName name m
    pub named : IsNamed (name, filed)
    pub put : IsPut name filed es es'
    pub header : IsTrue disk.tells → IfSome (folder.files before m) (λ d. HasName (Some name) (disk.view d).seen)
    pub read : IsTrue disk.tells → IsReadFrom (folder.files before m) filed.container
    pub held : IsTrue disk.tells → IsHeld filed.container
    pub safe : IsTrue disk.tells → IsSafe filed.container

  pub record IsFileRead (before after : F) (m : List ℕ) (es es' : List (Key × Filed D disk)) : Type 0 where
    pub what : IsPassed before after m es es' ⊎ IsAdded before after m es es'
    pub others : IsTrue disk.tells → IsElsewhere m (folder.files before) (folder.files after)

  -- the file is no wavelet's
  pub record IsSkipped (before after : F) (m : List ℕ) (es es' : List (Key × Filed D disk)) : Type 0 where
    pub other : is_file_name m ≡ false
    pub same : es' ≡ es
    pub still : after ≡ before

  abbrev pub faults_with : F → List (Key × Filed D disk) → ℕ
  faults_with f es = min (folder.faults f + faults_in es) most_faults

  pub record IsFileStep (before after : F) (m : List ℕ) (es es' : List (Key × Filed D disk))
      (r : Result (Unit {0}) ShelfFault) : Type 0 where
    pub read : OnOk r (IsFileRead before after m es es')
    pub back : OnErr r ((es' ≡ es) × IsFileBack folder disk before after m)
    pub damaged : IfErr r (λ e. IfSome (damage_of e)
        (λ d. (d.0 ≡ m) × (IsTrue disk.tells → IsRefusedFile disk.view (folder.files before m) m d.1)))
    pub later : faults_with before es ≤ faults_with after es'
    pub failed : IsErrOf r Failed → Rose (faults_with before es) (faults_with after es')

  -- ---- all files

  pub record IsLooked (before after : F) (es : List (Key × Filed D disk)) (done : List (List ℕ)) : Type 0 where
    pub apart : (n m : Key) → IsSome (found es n) → IsSome (found es m) → file_name_of n ≡ file_name_of m → n ≡ m
    pub among : (n : Key) → IsSome (found es n) → is_among done (file_name_of n) ≡ true
    pub untouched : IsTrue disk.tells → (m : List ℕ) → is_among done m ≡ false → folder.files after m ≡ folder.files before m
    pub as_before : IsTrue disk.tells → (m : List ℕ) → ((n : Key) → IsSome (found es n) → m ≢ file_name_of n)
        → IsAsBefore disk.view (folder.files before m) (folder.files after m)
    pub read : IsTrue disk.tells → (n : Key) → IfSome (found es n) (IsReadFrom (folder.files before (file_name_of n)))
    pub held : IsTrue disk.tells → AreHeld es
    pub safe : IsTrue disk.tells → AreSafe es

  pub record IsLoading (before after : F) (es : List (Key × Filed D disk)) (done : List (List ℕ)) : Type 0 where
    pub looked : IsLooked before after es done
    pub each : IsTrue disk.tells → (n : Key) (ds : List DeltaOf) → is_wavelet_name n ≡ true → ds ≢ [] → is_among done (file_name_of n)
        ≡ true → IfSome (folder.files before (file_name_of n))
        (λ d. StandsForHistory n ds (disk.view d).seen → deltas_in (hosting es) n ≡ ds)
    pub sound : IsTrue disk.tells → (m : List ℕ) → is_among done m ≡ true → IsSound disk.view (folder.files before m) m

  pub record IsAllStep (before after : F) (es : List (Key × Filed D disk)) (names : List (List ℕ))
      (r : Result (Unit {0}) ShelfFault) : Type 0 where
    pub done : List (List ℕ)
    pub looked : IsLooked before after es done
    pub loading : OnOk r (IsLoading before after es names)
    pub damaged : IfErr r (λ e. IfSome (damage_of e) (λ d. IsTrue disk.tells → IsFirstAmong folder disk before names d.0 d.1))
    pub later : faults_with before [] ≤ faults_with after es
    pub failed : IsErrOf r Failed → Rose (faults_with before []) (faults_with after es)

  pub record IsLoadedAs (before after : F) (es : List (Key × Filed D disk)) (r : Result (Unit {0}) ShelfFault) : Type 0 where
    pub read : OnOk r (IsTrue disk.tells → (n : Key) → IfSome (found es n) (IsReadFrom (folder.files before (file_name_of n))))
    pub all : OnOk r (IsTrue disk.tells → HasAll disk.view (folder.files before) (hosting es))
    pub sound : OnOk r (IsTrue disk.tells → (m : List ℕ) → IsSound disk.view (folder.files before m) m)
    pub held : OnOk r (IsTrue disk.tells → AreHeld es × AreSafe es)
    pub apart : OnOk r ((n m : Key) → IsSome (found es n) → IsSome (found es m) → file_name_of n ≡ file_name_of m → n ≡ m)
    pub damaged : IfErr r (λ e. IfSome (damage_of e) (λ d. IsTrue disk.tells → IsFirstRefused disk.view (folder.files before) d.0 d.1))
    pub none : OnErr r (es ≡ [])
    pub as_before : IsTrue disk.tells → (m : List ℕ) → ((n : Key) → IsSome (found es n) → m ≢ file_name_of n)
        → IsAsBefore disk.view (folder.files before m) (folder.files after m)
    pub later : faults_with before [] ≤ faults_with after es
    pub failed : IsErrOf r Failed → Rose (faults_with before []) (faults_with after es)
