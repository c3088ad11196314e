use Rattle.turn_cells.specs.Cells.{AreMade}
use Rattle.turn_cells.proofs.made.cells_of.Given as goal

abbrev pub invariant-loop-value : goal.invariant-loop-value
invariant-loop-value g l = AreMade g.T.Logged.entries l.yielded l.cells.items l.passes.items
