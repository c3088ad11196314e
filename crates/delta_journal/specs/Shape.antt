-- The shapes that a journal's file has from one write to the next, and the writes that leave each. `HasShape` says
-- what a shape is, `Spares` which writes, whole or torn, a file of that shape keeps it under.
use Rattle.std.specs.Prelude.{◌≡◌, ℕ, ◌+◌, ◌<◌, List, ◌∷◌, ◌++◌, length}
use Rattle.disk_model.specs.Disk.{DiskView, Kept, LeavesOnly}
use Rattle.delta_journal.specs.File.{Closed}

-- fewer than two bytes
abbrev pub IsBlank : List ℕ → Type 0
IsBlank file = length file < 2

-- these bytes, any gate, a block after it, and then anything
pub record Staged (front block file : List ℕ) : Type 0 where
  pub gate : ℕ
  pub tail : List ℕ
  pub split : file ≡ front ++ gate ∷ (block ++ tail)

pub data Shape : Type 0 where
  no_gate : Shape
  shut_gate : List ℕ → Shape
  any_gate : List ℕ → List ℕ → Shape

abbrev pub HasShape : Shape → List ℕ → Type 0
HasShape no_gate file = IsBlank file
HasShape (shut_gate front) file = Closed front file
HasShape (any_gate front block) file = Staged front block file

-- a write of n bytes at `at` leaves this shape: before there is a gate, after a closed gate, and at the gate itself
abbrev pub Spares : Shape → ℕ → ℕ → Type 0
Spares no_gate at n = (at ≡ 0) × (n ≡ 1)
Spares (shut_gate front) at n = at ≡ length front + 1
Spares (any_gate front block) at n = (at ≡ length front) × (n ≡ 1)

-- at every moment from old on, and now, the file has P
pub record Stays (old new : DiskView) (P : List ℕ → Type 0) : Type 0 where
  pub moments : LeavesOnly old new P
  pub now : Kept new P
