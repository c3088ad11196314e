use Rattle.std.proofs.Common.{◌≡◌}
use Rattle.delta_history.proofs.log.Log.reserve.Given as goal

abbrev pub invariant-loop : goal.invariant-loop
invariant-loop l = l.self ≡ l.fn.self
