use Rattle.std.proofs.Common.{◌≤◌, length, vec_capacity}
use Rattle.turn_cells.proofs.Closing.{IsClosing}
use Rattle.turn_cells.proofs.cells.Cells.close.Given as goal

abbrev pub invariant-loop-cell : goal.invariant-loop-cell
invariant-loop-cell g l = IsClosing g.T.Logged.entries l.fn.passes.list.items l.list.items l.passes.items l.room.items × (16 ≤ vec_capacity l.room)

abbrev pub decreases-loop-cell : goal.decreases-loop-cell
decreases-loop-cell g l = length l.list.items
