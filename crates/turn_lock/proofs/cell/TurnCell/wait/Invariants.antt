use Rattle.turn_lock.specs.Passes.{IsWaiting, IsSameView}
use Rattle.turn_lock.proofs.cell.TurnCell.wait.Given as goal

abbrev pub invariant-loop : goal.invariant-loop
invariant-loop g l = IsWaiting l.self l.number l.pass × IsSameView l.fn.pass l.pass
