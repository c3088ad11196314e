-- What a disk with one file is, what its calls do to the file, and what a crash may leave. `DiskView` is what a
-- disk means at one moment, `overwritten` and `Torn` are a write that is whole and one that isn't, `Elapses`,
-- `IsUntouched` and `HasCause` say what a call may do, `IsClocked` is the law of the clock, and `LeavesOnly`,
-- `Kept`, `OnlyRead` are the words of the crates above.
use Rattle.std.specs.Prelude.{◌≡◌, ◌⊎◌, ℕ, ◌+◌, ◌-◌, ◌^◌, ◌≤◌, min, max, List, ◌++◌, length, take, drop, Result, OnErr}

-- what a disk means at one moment
pub record DiskView : Type 1 where
  -- the bytes that a read gives
  pub seen : List ℕ
  -- the images: what a crash at this moment may leave
  pub may_leave : List ℕ → Type 0
  -- the moment, as a number that never falls
  pub moment : ℕ
  -- what a crash at that moment, or at a later one up to now, might have left
  pub left_since : ℕ → List ℕ → Type 0
  -- how often the disk has failed
  pub faults : ℕ

-- the file begins with these bytes
abbrev pub BeginsWith : List ℕ → List ℕ → Type 0
BeginsWith front file = (rest : List ℕ) × (file ≡ front ++ rest)

-- the file with these bytes at this offset
abbrev pub overwritten : List ℕ → ℕ → List ℕ → List ℕ
overwritten file at bytes = take at file ++ bytes ++ drop (at + length bytes) file

-- after a write of n bytes at `at`: any bytes in that range and past the old end, the same elsewhere
pub record Torn (at n : ℕ) (old new : List ℕ) : Type 0 where
  pub before : BeginsWith (take at old) new
  pub after : drop (at + n) new ≡ drop (at + n) old
  pub no_shorter : length old ≤ length new
  pub no_longer : length new ≤ max (length old) (at + n)

-- each image after a write of n bytes at `at` is one from before, whole or torn
abbrev pub IsWritten : ℕ → ℕ → DiskView → DiskView → Type 0
IsWritten at n old new = (c : List ℕ) → new.may_leave c → (d : List ℕ) × old.may_leave d × Torn at n d c

-- a crash leaves this file and nothing else
abbrev pub LeavesJust : List ℕ → DiskView → Type 0
LeavesJust file disk = (c : List ℕ) → disk.may_leave c → c ≡ file

-- Time goes on: a crash since t might have left what it might have left before, or what it may leave now.
pub record Elapses (old new : DiskView) : Type 0 where
  pub later : old.moment ≤ new.moment
  pub nothing_else : (t : ℕ) (c : List ℕ) → t ≤ old.moment → new.left_since t c → old.left_since t c ⊎ new.may_leave c
  pub keeps : (t : ℕ) (c : List ℕ) → t ≤ old.moment → old.left_since t c → new.left_since t c

-- a read gives the same, and a crash leaves no more than before
pub record IsUntouched (old new : DiskView) : Type 0 where
  pub seen : new.seen ≡ old.seen
  pub crash : (c : List ℕ) → new.may_leave c → old.may_leave c

-- the count is higher than it was, or it stands at the end of its type
abbrev pub Rose : DiskView → DiskView → Type 0
Rose old new = min (old.faults + 1) (2 ^ 64 - 1) ≤ new.faults

-- the count has not fallen, and a call that fails has raised it
pub record HasCause {T E : Type 0} (old new : DiskView) (result : Result T E) : Type 0 where
  pub later : old.faults ≤ new.faults
  pub failed : OnErr result (Rose old new)

-- this moment is one of those since an earlier one, and since this moment there is no other
pub record IsClocked (disk : DiskView) : Type 0 where
  pub counts_now : (t : ℕ) (c : List ℕ) → t ≤ disk.moment → disk.may_leave c → disk.left_since t c
  pub only_now : (c : List ℕ) → disk.left_since disk.moment c → disk.may_leave c

-- a crash at any moment since old leaves a file that has P
pub record LeavesOnly (old new : DiskView) (P : List ℕ → Type 0) : Type 0 where
  pub later : old.moment ≤ new.moment
  pub each : (c : List ℕ) → new.left_since old.moment c → P c
  -- for a run that began earlier
  pub before : (t : ℕ) (c : List ℕ) → t ≤ old.moment → new.left_since t c → old.left_since t c ⊎ P c

-- what a read gives has P, and so has each image
pub record Kept (disk : DiskView) (P : List ℕ → Type 0) : Type 0 where
  pub now : P disk.seen
  pub left : (c : List ℕ) → disk.may_leave c → P c

-- nothing was written: at every moment a crash left what it might have left before, or what a read gives
pub record OnlyRead (old new : DiskView) : Type 0 where
  pub seen : new.seen ≡ old.seen
  pub images : (c : List ℕ) → new.may_leave c → old.may_leave c ⊎ (c ≡ old.seen)
  pub moments : LeavesOnly old new (λ c. old.may_leave c ⊎ (c ≡ old.seen))
  pub faults : old.faults ≤ new.faults
