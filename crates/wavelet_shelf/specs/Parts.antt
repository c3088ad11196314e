-- Shelves that are divided.
--     is_in i n            the wavelet of the name is of the shard
--     entries_in i es      those of the shard, of entries by name
--     IsPart s i p         p has what s has of the shard, over a folder like that of s
--     AreAlike o p         a folder in both, with the same paths entered, the same room, and files that read the same; or in neither
--     fault_sums ss        how often the folders and disks of shelves have failed, added
--     IsLike o s           a shelf without containers, over a folder like this one
--     IsAddedTo n c ss after     one more container came to the shelf of its shard
--     ArePartsOf es ss after     all entries came to the shelves of their shards
use Rattle.std.specs.Prelude.{◌≡◌, ◌+◌, ℕ, List, [], ◌∷◌, Bool, nat_eq, cond, map, filter, set, slice_get, Option, Some, None, IsTrue, IfSome}
use Rattle.doc_items.specs.Maps.{Key}
use Rattle.disk_model.specs.declared.disk.Disk as disk_of
use Rattle.wave_outside.specs.Folders.{IsSame, IsReadAlike}
use Rattle.wave_outside.specs.declared.folder.Folder as folder_of
use Rattle.wavelet_shelf.specs.Entries.{faults_in, IsPut}
use Rattle.wavelet_shelf.specs.FileNames.{shard_of}
use Rattle.wavelet_shelf.specs.Folders.{IsStill}
use Rattle.wavelet_shelf.specs.Shelves.{entries_of, in_folder, container_in, hosted_of, fault_sum, IsKept, IsSettled, AreApart}
use Rattle.wavelet_shelf.specs.declared.filed.Filed.{Filed}
use Rattle.wavelet_shelf.specs.declared.shelf.Shelf.{Shelf}

abbrev pub is_in : ℕ → Key → Bool
is_in i n = nat_eq (shard_of n) i

abbrev pub entries_in : {V : Type 0} → ℕ → List (Key × V) → List (Key × V)
entries_in i es = filter (λ e. is_in i e.0) es

module _ {F D : Type 0} (folder : folder_of.Ghosts F D) (disk : disk_of.Ghosts D) where
  pub record IsAlike (f g : F) : Type 0 where
    pub room : IsSame (folder.room f) (folder.room g)
    pub still : IsStill folder f g
    pub files : IsTrue folder.tells → (m : List ℕ) → IsReadAlike disk.view (folder.files f m) (folder.files g m)

  abbrev pub AreAlike : Option F → Option F → Type 0
  AreAlike None None = Unit {0}
  AreAlike None (Some g) = ⊥
  AreAlike (Some f) None = ⊥
  AreAlike (Some f) (Some g) = IsAlike f g

module _ {F D : Type 0} {folder : folder_of.Ghosts F D} {disk : disk_of.Ghosts D} where
  pub record IsPart (s : Shelf F D folder disk) (i : ℕ) (p : Shelf F D folder disk) : Type 0 where
    pub containers : (n : Key) → container_in p n ≡ cond (is_in i n) (container_in s n) None
    pub hosted : hosted_of p ≡ filter (λ h. is_in i h.name) (hosted_of s)
    pub folder_like : AreAlike folder disk (in_folder s) (in_folder p)
    pub kept : IsKept s → IsKept p
    pub settled : IsSettled s → IsSettled p
    pub apart : AreApart s → AreApart p

  abbrev pub fault_sums : List (Shelf F D folder disk) → ℕ
  fault_sums [] = 0
  fault_sums (s ∷ ss) = fault_sum s + fault_sums ss

  pub record IsLike (o : Option F) (s : Shelf F D folder disk) : Type 0 where
    pub none : entries_of s ≡ []
    pub like : AreAlike folder disk o (in_folder s)

  pub record IsAddedTo (n : Key) (filed : Filed D disk) (shelves after : List (Shelf F D folder disk)) : Type 0 where
    pub old : Shelf F D folder disk
    pub new : Shelf F D folder disk
    pub was : slice_get shelves (shard_of n) ≡ Some old
    pub put : IsPut n filed (entries_of old) (entries_of new)
    pub folder_stays : in_folder new ≡ in_folder old
    pub is : after ≡ set shelves (shard_of n) new

  pub record ArePartsOf (es : List (Key × Filed D disk)) (shelves after : List (Shelf F D folder disk)) : Type 0 where
    pub each : (i : ℕ) → IfSome (slice_get after i) (λ s. entries_of s ≡ entries_in i es)
    pub folders : map in_folder after ≡ map in_folder shelves
    pub counted : fault_sums after ≡ fault_sums shelves + faults_in es
