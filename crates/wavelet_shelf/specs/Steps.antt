-- What a submission does.
--     IsTaken s t c c' r        the container c answered a submission, and is c' then
--     IsStarted n c             a container of the name with the empty history, which may stand in a journal
--     IsTakenFirst n s t c v    a new container of the name, without a journal, answered, and is c then
--     IsAnswered n s t es es' r     the container of the name among entries answered
--     IsHosted n s t a b r      the shelf a answered, and is b then
use Rattle.std.specs.Prelude.{◌≡◌, ◌≢◌, ◌⊎◌, ◌==◌, ◌≤◌, ℕ, List, [], false, Result, Ok, Some, None, is_some, IsTrue, IsSome, IfOk, IfSome, OnOk, OnErr, IsErrOf}
use Rattle.std.specs.Cmp.Lexicographic.{pointwise}
use Rattle.std.specs.Map.{lookup, set_value}
use Rattle.doc_items.specs.Maps.{Key}
use Rattle.wavelet_op.specs.declared.delta.Submission.{Submission}
use Rattle.wavelet_op.specs.declared.verdict.Verdict.{Verdict}
use Rattle.delta_history.specs.Histories.{IsSameHistory}
use Rattle.disk_model.specs.declared.disk.Disk as disk_of
use Rattle.wave_outside.specs.Counts.{Rose}
use Rattle.wave_outside.specs.Folders.{IsEmptyFile}
use Rattle.wave_outside.specs.declared.folder.Folder as folder_of
use Rattle.delta_journal.specs.Journal.{on_disk, needs_repair}
use Rattle.wavelet_container.specs.Containers.{history_of, journal_of, IsHeld}
use Rattle.wavelet_container.specs.Decisions.{judged, LooksAtOps}
use Rattle.wavelet_container.specs.Stores.{IsGrownBy, StandsForOneMore}
use Rattle.wavelet_container.specs.declared.container.Container.{Container}
use Rattle.wavelet_container.specs.declared.fault.SubmitFault.{SubmitFault}
use Rattle.wavelet_container.specs.declared.fault.SubmitFault.TheVariants.{DiskFault, Memory}
use Rattle.wavelet_shelf.specs.Entries.{faults_of, IsFileWithin, IsWrittenOn, IsSafe}
use Rattle.wavelet_shelf.specs.FileNames.{file_name_of}
use Rattle.wavelet_shelf.specs.Folders.{IsUsedIn, IsUnmadeIn}
use Rattle.wavelet_shelf.specs.Hosting.{deltas_in, judged_in, after_submission}
use Rattle.wavelet_shelf.specs.Shelves.{in_folder, hosted_of, container_in, fault_count, IsKept, IsSettled, IsNewFile, IsOneMoreOf}
use Rattle.wavelet_shelf.specs.declared.filed.Filed.{Filed}
use Rattle.wavelet_shelf.specs.declared.shelf.Shelf.{Shelf}

module _ {K : Type 0} {disk : disk_of.Ghosts K} where
  pub record IsTaken (s : Submission) (t : ℕ) (c after : Container K disk) (r : Result Verdict SubmitFault) : Type 0 where
    pub verdict : IfOk r (λ v. v ≡ (judged (history_of c) s t).0)
    pub grown : OnOk r (IsGrownBy (history_of c) (judged (history_of c) s t).1 (history_of after))
    pub same : OnErr r (IsSameHistory (history_of c) (history_of after))
    pub held : IsHeld c → IsHeld after
    pub safe : OnOk r (IsHeld c → IsSafe after)
    pub late : IsErrOf r Memory → LooksAtOps (judged (history_of c) s t)
    pub untouched : IsErrOf r Memory → IsHeld c → IsSafe after
    pub within : IsHeld c → IsSafe c → IsFileWithin (history_of c).name (history_of c).deltas (judged (history_of c) s t).1 after
    pub moments : IsHeld c → IsSafe c
        → IsWrittenOn (Some c) (Some after)
        (StandsForOneMore (history_of c).name (history_of c).deltas (λ d. (judged (history_of c) s t).1 ≡ Some d))
    pub later : faults_of c ≤ faults_of after
    pub failed : IsErrOf r DiskFault → Rose (faults_of c) (faults_of after)
    pub filed : IsErrOf r DiskFault → IsSome (journal_of c)
    pub plain : is_some (journal_of c) ≡ false → is_some (journal_of after) ≡ false

  -- the first container of a name, as it is made
  pub record IsStarted (n : Key) (c : Container K disk) : Type 0 where
    pub name : (history_of c).name ≡ n
    pub empty : (history_of c).deltas ≡ []
    pub held : IsTrue disk.tells → IsHeld c
    pub sure : IfSome (journal_of c) (λ j. needs_repair j ≡ false)
    pub fresh : IsTrue disk.tells → IfSome (journal_of c) (λ j. IsEmptyFile (on_disk j))
    pub unfailed : faults_of c ≡ 0

  -- one without a journal, once it has answered
  pub record IsTakenFirst (n : Key) (s : Submission) (t : ℕ) (c : Container K disk) (v : Verdict) : Type 0 where
    pub before : Container K disk
    pub name : (history_of before).name ≡ n
    pub empty : (history_of before).deltas ≡ []
    pub plain : journal_of before ≡ None
    pub taken : IsTaken s t before c (Ok v)

  pub record IsAnswered (n : Key) (s : Submission) (t : ℕ) (es after : List (Key × Filed K disk))
      (r : Result Verdict SubmitFault) : Type 0 where
    pub old : Filed K disk
    pub new : Filed K disk
    pub was : lookup (pointwise ◌==◌ n) es ≡ Some old
    pub is : after ≡ set_value (pointwise ◌==◌ n) es new
    pub file : new.file ≡ old.file
    pub taken : IsTaken s t old.container new.container r

module _ {F D : Type 0} {folder : folder_of.Ghosts F D} {disk : disk_of.Ghosts D} where
  pub record IsHosted (n : Key) (s : Submission) (t : ℕ) (a b : Shelf F D folder disk) (r : Result Verdict SubmitFault) : Type 0 where
    pub verdict : IfOk r (λ v. v ≡ (judged_in (hosted_of a) n s t).0)
    pub grown : OnOk r (hosted_of b ≡ after_submission (hosted_of a) n s t)
    pub same : OnErr r (hosted_of b ≡ hosted_of a)
    pub others : (m : Key) → m ≢ n → container_in b m ≡ container_in a m
    pub begun : IsSome (container_in b n) → IsSome (container_in a n) ⊎ IsSome (judged_in (hosted_of a) n s t).1
    pub kept : IsKept a → IsKept b
    pub safe : OnOk r (IsKept a → IfSome (container_in b n) IsSafe)
    pub settled : OnOk r (IsKept a → IsSettled a → IsSettled b)
    pub late : IsErrOf r Memory → LooksAtOps (judged_in (hosted_of a) n s t)
    pub untouched : IsErrOf r Memory → IsKept a → IsSettled a → IsSettled b
    pub within : IsKept a → IsSettled a
        → IfSome (container_in b n) (IsFileWithin n (deltas_in (hosted_of a) n) (judged_in (hosted_of a) n s t).1)
    pub moments : IsKept a → IsSettled a → IsWrittenOn (container_in a n) (container_in b n) (IsOneMoreOf a n s t)
    pub later : fault_count a ≤ fault_count b
    pub failed : IsErrOf r DiskFault → Rose (fault_count a) (fault_count b)
    pub disk_there : IsErrOf r DiskFault → IsSome (in_folder a)
    pub used : IsUsedIn folder (IsNewFile a n s t) (in_folder a) (in_folder b)
    pub unmade : container_in b n ≡ None → IsUnmadeIn folder disk (file_name_of n) (in_folder a) (in_folder b)
