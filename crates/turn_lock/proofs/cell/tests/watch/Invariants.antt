use Rattle.turn_lock.specs.Passes.{IsOf}
use Rattle.turn_lock.proofs.cell.tests.watch.Given as goal

abbrev pub invariant-loop : goal.invariant-loop
invariant-loop l = IsOf l.cell l.pass
