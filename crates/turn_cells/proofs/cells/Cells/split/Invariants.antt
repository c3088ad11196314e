use Rattle.std.proofs.Common.{◌≡◌, ◌<◌, ℕ, length, slice_get}
use Rattle.turn_cells.specs.Cells.{AreOf, AreSame}
use Rattle.turn_cells.proofs.Joining.{IsSplitOf}
use Rattle.turn_cells.proofs.cells.Cells.split.Given as goal

abbrev pub invariant-loop-place : goal.invariant-loop-place
invariant-loop-place g l =
    AreOf l.self l.passes
    × AreSame l.fn.passes l.passes
    × (length l.list.items ≡ l.place)
    × ((k : ℕ) → k < l.place → IsSplitOf (slice_get l.self.list.items k) (slice_get l.fn.passes.list.items k) (slice_get l.list.items k))
