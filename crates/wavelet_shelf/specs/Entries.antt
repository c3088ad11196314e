-- Containers by name.
--     found es n             the container of the name
--     AreInOrder es          the names ascend; each container's history has its name, and its file is that of the name
--     IsPlace n names i      the name belongs there among the names
--     IsPut n f es after     the entry came to the others
--     HasDelta e, HaveADelta es    the history of an entry, or of each entry, has a delta
--     histories es           the deltas of each name
--     hosting es             the deltas of each name that has a delta
--     faults_of c, faults_in es     how often disks have failed
--     AreHeld es             over disks that tell their bytes, each history stands in a journal
--     IsSafe c               the history stands in its file as that reads, and in each image of it, and no repair is pending
--     AreSafe es             the container of each entry is safe
--     BeganEmpty view v P    a disk that was empty is at v now, and a crash since then left it as it was or with what has P
--     IsWrittenOn o p P      of the container of a name before and after, if any: the file of the first, or an empty one where there was
--                            none, was written until it was that of the second, and a crash since then left what it might have left
--                            before, or what has P
--     IsFileWithin n ds o c  where it has a file: as it reads, and in each image, that stands for this history, or for it and the delta
--     HaveRoom room es       there is room for the disk of each
--     FitsFolder room folder e     there is room for its disk in the folder; without one, it stands in no journal
--     FitFolder room folder es     each entry fits the folder in this way
use Rattle.std.specs.Prelude.{◌≡◌, ◌==◌, ℕ, ◌+◌, ◌≤◌, Bool, true, false, List, [], ◌∷◌, length, insert, map, Option, Some, None, is_some, IfSome, string_bytes}
use Rattle.std.specs.Cmp.Lexicographic.{pointwise, slice_cmp}
use Rattle.std.specs.Coded.{Coded-set, coded_ℕ, coded_list, coded_bool, ×_prop, Unit-prop}
use Rattle.std.specs.List.{AllByRecursion, AllByRecursion-prop, AllWithin}
use Rattle.std.specs.Map.{lookup, keys_of}
use Rattle.std.specs.Option.{option_map}
use Rattle.std.specs.Ordering.{nat_cmp, Ordering-set}
use Rattle.std.specs.declared.cmp.Ordering.TheVariants.{Less, Greater}
use Rattle.doc_items.specs.Maps.{Key}
use Rattle.wavelet_op.specs.Deltas.{DeltaOf}
use Rattle.delta_history.specs.Copying.{AscendFrom, AreAscending}
use Rattle.disk_model.specs.Disk.{DiskView}
use Rattle.disk_model.specs.declared.disk.Disk.{Ghosts}
use Rattle.wave_outside.specs.Folders.{AddsOnly, IsEmptyFile}
use Rattle.delta_journal.specs.Journal.{on_disk, needs_repair, EachImage}
use Rattle.delta_journal.specs.declared.journal.Journal.{Journal}
use Rattle.wavelet_container.specs.Containers.{history_of, journal_of, OfBoth, IsHeld}
use Rattle.wavelet_container.specs.Records.{StandsForHistory}
use Rattle.wavelet_container.specs.Stores.{IsWithin}
use Rattle.wavelet_container.specs.declared.container.Container.{Container}
use Rattle.wavelet_shelf.specs.FileNames.{file_name_of}
use Rattle.wavelet_shelf.specs.Hosting.{Hosted}
use Rattle.wavelet_shelf.specs.declared.filed.Filed.{Filed}

abbrev pub shown_by : Hosted → List DeltaOf → List Hosted → List Hosted
shown_by h [] hs = hs
shown_by h (d ∷ ds) hs = h ∷ hs

-- those that have a delta
abbrev pub shown : List Hosted → List Hosted
shown [] = []
shown (h ∷ hs) = shown_by h h.deltas (shown hs)

-- where a new name belongs among others
pub record IsPlace (n : Key) (keys : List Key) (i : ℕ) : Type 0 where
  pub inside : i ≤ length keys
  pub below : AllWithin (λ k. slice_cmp nat_cmp k n ≡ Less) keys 0 i
  pub above : AllWithin (λ k. slice_cmp nat_cmp k n ≡ Greater) keys i (length keys)

same_key : (n m : Key) → IsProp (n ≡ m)
same_key n m = Coded-set (coded_list coded_ℕ) n m

AscendFrom-prop : (n : Key) (ns : List Key) → IsProp (AscendFrom n ns)
AscendFrom-prop n [] = Unit-prop
AscendFrom-prop n (m ∷ ns) = ×_prop (Ordering-set _ _) (AscendFrom-prop m ns)

AreAscending-prop : (ns : List Key) → IsProp (AreAscending ns)
AreAscending-prop [] = Unit-prop
AreAscending-prop (n ∷ ns) = AscendFrom-prop n ns

pub record BeganEmpty {K : Type 0} (view : K → DiskView) (v : DiskView) (P : List ℕ → Type 0) : Type 0 where
  pub made : K
  pub empty : IsEmptyFile (view made)
  pub moments : AddsOnly (view made) v P

module _ {K : Type 0} {disk : Ghosts K} where
  abbrev pub found : List (Key × Filed K disk) → Key → Option (Container K disk)
  found es n = option_map (λ f. f.container) (lookup (pointwise ◌==◌ n) es)

  abbrev pub IsNamed : Key × Filed K disk → Type 0
  IsNamed e = ((history_of e.1.container).name ≡ e.0) × (string_bytes e.1.file ≡ file_name_of e.0)

  abbrev pub AreInOrder : List (Key × Filed K disk) → Type 0
  AreInOrder es = AreAscending (keys_of es) × AllByRecursion IsNamed es

  pub AreInOrder-prop : (es : List (Key × Filed K disk)) → IsProp (AreInOrder es)
  AreInOrder-prop es = ×_prop (AreAscending-prop (keys_of es)) (AllByRecursion-prop IsNamed (λ e. ×_prop (same_key _ _) (same_key _ _)) es)

  abbrev pub HasDelta : Key × Filed K disk → Type 0
  HasDelta e = (length (history_of e.1.container).deltas == 0) ≡ false

  abbrev pub HaveADelta : List (Key × Filed K disk) → Type 0
  HaveADelta es = AllByRecursion HasDelta es

  pub HaveADelta-prop : (es : List (Key × Filed K disk)) → IsProp (HaveADelta es)
  HaveADelta-prop es = AllByRecursion-prop HasDelta (λ e. Coded-set coded_bool _ _) es

  -- the entry came to the others
  pub record IsPut (n : Key) (filed : Filed K disk) (es after : List (Key × Filed K disk)) : Type 0 where
    pub at : ℕ
    pub place : IsPlace n (keys_of es) at
    pub absent : lookup (pointwise ◌==◌ n) es ≡ None
    pub is : after ≡ insert es at (n, filed)

  abbrev pub history_at : Key × Filed K disk → Hosted
  history_at e = record { name = e.0; deltas = (history_of e.1.container).deltas }

  abbrev pub histories : List (Key × Filed K disk) → List Hosted
  histories es = map history_at es

  abbrev pub hosting : List (Key × Filed K disk) → List Hosted
  hosting es = shown (histories es)

  -- ---- disks

  abbrev pub faults_on : Option (Journal K disk) → ℕ
  faults_on None = 0
  faults_on (Some j) = (on_disk j).faults

  abbrev pub faults_of : Container K disk → ℕ
  faults_of c = faults_on (journal_of c)

  abbrev pub faults_in : List (Key × Filed K disk) → ℕ
  faults_in [] = 0
  faults_in (e ∷ es) = faults_of e.1.container + faults_in es

  abbrev pub AreHeld : List (Key × Filed K disk) → Type 0
  AreHeld es = AllByRecursion (λ e. IsHeld e.1.container) es

  pub record IsSafe (c : Container K disk) : Type 0 where
    pub journal : Journal K disk
    pub is : journal_of c ≡ Some journal
    pub whole : needs_repair journal ≡ false
    pub read : StandsForHistory (history_of c).name (history_of c).deltas (on_disk journal).seen
    pub images : EachImage journal (StandsForHistory (history_of c).name (history_of c).deltas)

  abbrev pub IsFileWithin : Key → List DeltaOf → Option DeltaOf → Container K disk → Type 0
  IsFileWithin n ds added c = IfSome (journal_of c) (IsWithin n ds (λ d. added ≡ Some d))

  abbrev pub IsWrittenOn : Option (Container K disk) → Option (Container K disk) → (List ℕ → Type 0) → Type 0
  IsWrittenOn None None P = Unit {0}
  IsWrittenOn None (Some d) P = IfSome (journal_of d) (λ j. BeganEmpty disk.view (on_disk j) P)
  IsWrittenOn (Some c) None P = ⊥
  IsWrittenOn (Some c) (Some d) P = OfBoth (journal_of c) (journal_of d) (λ i j. AddsOnly (on_disk i) (on_disk j) P)

  abbrev pub AreSafe : List (Key × Filed K disk) → Type 0
  AreSafe es = AllByRecursion (λ e. IsSafe e.1.container) es

  abbrev pub HaveRoom : (List ℕ → Bool) → List (Key × Filed K disk) → Type 0
  HaveRoom room es = AllByRecursion (λ e. room (file_name_of e.0) ≡ true) es

  abbrev pub FitsFolder : {F : Type 0} → (F → List ℕ → Bool) → Option F → Key × Filed K disk → Type 0
  FitsFolder room None e = is_some (journal_of e.1.container) ≡ false
  FitsFolder room (Some f) e = room f (file_name_of e.0) ≡ true

  abbrev pub FitFolder : {F : Type 0} → (F → List ℕ → Bool) → Option F → List (Key × Filed K disk) → Type 0
  FitFolder room folder es = AllByRecursion (λ e. FitsFolder room folder e) es

  FitsFolder-prop : {F : Type 0} (room : F → List ℕ → Bool) (folder : Option F) (e : Key × Filed K disk) → IsProp (FitsFolder room folder e)
  FitsFolder-prop room None e = Coded-set coded_bool _ _
  FitsFolder-prop room (Some f) e = Coded-set coded_bool _ _

  pub FitFolder-prop : {F : Type 0} (room : F → List ℕ → Bool) (folder : Option F) (es : List (Key × Filed K disk))
      → IsProp (FitFolder room folder es)
  FitFolder-prop room folder es = AllByRecursion-prop _ (FitsFolder-prop room folder) es
