use Rattle.turn_lock.proofs.Keeping.{one_log}
use Rattle.turn_lock.proofs.laws.one_history.Goals as goal

pub returns : goal.returns
returns g c = one_log g.T.Logged.entries
