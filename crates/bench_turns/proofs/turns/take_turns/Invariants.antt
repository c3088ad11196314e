use Rattle.turn_lock.specs.Passes.{IsOf}
use Rattle.bench_turns.proofs.turns.take_turns.Given as goal

abbrev pub invariant-loop : goal.invariant-loop
invariant-loop g l = IsOf l.cell l.pass
