use Rattle.turn_cells.proofs.Joining.{IsJoining}
use Rattle.turn_cells.proofs.cells.Cells.join.Given as goal

abbrev pub invariant-loop-pass : goal.invariant-loop-pass
invariant-loop-pass g l = IsJoining l.self.list.items l.fn.passes.list.items l.fn.other.list.items l.passes.list.items l.list.items

abbrev pub decreases-loop-pass : goal.decreases-loop-pass
decreases-loop-pass g l = goal.left-loop-pass g l
