use Rattle.turn_lock.specs.Passes.{IsOf}
use Rattle.turn_lock.proofs.cell.tests.add_many.Given as goal

abbrev pub invariant-loop : goal.invariant-loop
invariant-loop g l = IsOf l.cell l.pass
