-- What a `MemoryDisk` means: `disk_view` as a disk, `chosen_image` as the image of a choice, and which of
-- its calls are to fail.
use Rattle.std.specs.Prelude.{ℕ, ◌^◌, ◌<◌, true, IsTrue, Option, List, length}
use Rattle.std.proofs.Common.{subst, sym, arith}
use Rattle.std.proofs.lemmas.List.{take_all}
use Rattle.disk_model.specs.Disk.{DiskView, IsClocked}
use Rattle.disk_model.specs.Steps.{left_of, since_of, file_before, image_from}
use Rattle.disk_model.specs.declared.memory.Step.{Step}
use Rattle.disk_model.specs.declared.memory.MemoryDisk.{MemoryDisk}

-- the file before the first step
abbrev pub first_file : MemoryDisk → List ℕ
first_file m = file_before m.first m.bytes.items

-- each step is a moment
abbrev pub view_of : List ℕ → List ℕ → List Step → ℕ → DiskView
view_of file first steps faults = record {
  seen = file;
  may_leave = left_of first steps;
  moment = length steps;
  left_since = since_of first steps;
  faults = faults;
}

abbrev pub disk_view : MemoryDisk → DiskView
disk_view m = view_of m.bytes.items (first_file m) m.steps.items m.faults

-- the numbers of the calls that are to fail, counted from 0; from `first_stopped` on all fail
abbrev pub failing_calls : MemoryDisk → List ℕ
failing_calls m = m.failing.items

abbrev pub first_stopped : MemoryDisk → Option ℕ
first_stopped m = m.stop

-- how many calls were made
abbrev pub call_count : MemoryDisk → ℕ
call_count m = m.calls

-- the image that has the i-th write since the last sync exactly where bit i modulo 64 of the choice is set
abbrev pub chosen_image : MemoryDisk → ℕ → List ℕ
chosen_image m choice = image_from choice 0 (first_file m) (first_file m) m.steps.items

only : (first : List ℕ) (steps : List Step) (c : List ℕ) → since_of first steps (length steps) c → left_of first steps c
only first steps c since = subst (λ (l : List Step). left_of first l c) (take_all since.0 steps since.1) since.3

pub clocked : (m : MemoryDisk) → IsClocked (disk_view m)
clocked m = record {
  counts_now = λ t c le left. (
    length m.steps.items,
    le,
    omega arith,
    subst (λ (l : List Step). left_of (first_file m) l c)
        (sym (take_all (length m.steps.items) m.steps.items (omega arith))) left,
  );
  only_now = λ c since. only (first_file m) m.steps.items c since;
}

-- a vector is never longer
pub bounded : (m : MemoryDisk) → IsTrue true → length (disk_view m).seen < 2 ^ 63
bounded m told = omega (arith, m.bytes.ok.0, m.bytes.ok.1, m.bytes.small)
