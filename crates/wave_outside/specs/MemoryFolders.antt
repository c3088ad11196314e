-- What a folder in memory holds: `file_in`, the disk of a name, and `has_file`, whether it has one; `file_names`, all
-- names; `folder_files`, `folder_calls` and `folder_log`, its parts; `IsMade`, that a file is there; `IsExchanged`, that another disk
-- stands for a file; `AreForks`, files of the same names that read the same.
use Rattle.std.specs.Prelude.{◌≡◌, ◌≢◌, ◌==◌, ℕ, Bool, cond, List, [], ◌∷◌, true, map, Option, Some, None, IsSome, IfSome, is_some, string_bytes}
use Rattle.std.specs.Cmp.Lexicographic.{pointwise}
use Rattle.disk_model.specs.declared.memory.MemoryDisk.{MemoryDisk}
use Rattle.wave_outside.specs.declared.calls.Calls.{Calls}
use Rattle.wave_outside.specs.declared.memory_folder.Entered.{Entered}
use Rattle.wave_outside.specs.declared.memory_folder.StoredFile.{StoredFile}
use Rattle.wave_outside.specs.declared.memory_folder.MemoryFolder.{MemoryFolder}
use Rattle.wave_outside.specs.Folders.{IsHanded, ReadsAlike, Entry, FolderLog}
use Rattle.disk_model.specs.Memory.{disk_view}

abbrev pub file_in : List StoredFile → List ℕ → Option MemoryDisk
file_in [] n = None
file_in (f ∷ fs) n = cond (pointwise ◌==◌ (string_bytes f.name) n) (Some f.disk) (file_in fs n)

abbrev pub has_file : List StoredFile → List ℕ → Bool
has_file fs n = is_some (file_in fs n)

abbrev pub file_names : List StoredFile → List (List ℕ)
file_names fs = map (λ f. string_bytes f.name) fs

abbrev pub folder_files : MemoryFolder → List StoredFile
folder_files f = f.list.items

abbrev pub folder_calls : MemoryFolder → Calls
folder_calls f = f.calls

abbrev pub entry_of : Entered → Entry
entry_of e = record { path = string_bytes e.path; after_use = e.after_use }

abbrev pub log_of : List Entered → Bool → FolderLog
log_of es used = record { entries = map entry_of es; used = used }

abbrev pub folder_log : MemoryFolder → FolderLog
folder_log f = log_of f.entered.items f.used

-- the file is there, as it was or empty
pub record IsMade (n : List ℕ) (before after : List StoredFile) : Type 0 where
  pub there : IfSome (file_in after n) (λ d. IsHanded disk_view (file_in before n) (disk_view d))
  pub some : has_file after n ≡ true
  pub others : (m : List ℕ) → m ≢ n → file_in after m ≡ file_in before m

-- another disk stands for the file, where it is there
pub record IsExchanged (n : List ℕ) (d : MemoryDisk) (before after : List StoredFile) : Type 0 where
  pub there : IsSome (file_in before n) → file_in after n ≡ Some d
  pub others : (m : List ℕ) → m ≢ n → file_in after m ≡ file_in before m
  pub names : (m : List ℕ) → has_file after m ≡ has_file before m

-- a file of its own that has the same name and reads the same
pub record IsFork (f g : StoredFile) : Type 0 where
  pub named : string_bytes g.name ≡ string_bytes f.name
  pub reads : ReadsAlike (disk_view f.disk) (disk_view g.disk)

abbrev pub AreForks : List StoredFile → List StoredFile → Type 0
AreForks [] [] = Unit {0}
AreForks [] (g ∷ gs) = ⊥
AreForks (f ∷ fs) [] = ⊥
AreForks (f ∷ fs) (g ∷ gs) = IsFork f g × AreForks fs gs
