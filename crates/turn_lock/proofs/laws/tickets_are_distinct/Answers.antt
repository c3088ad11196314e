use Rattle.turn_lock.proofs.Keeping.{distinct}
use Rattle.turn_lock.proofs.laws.tickets_are_distinct.Goals as goal

pub returns : goal.returns
returns g c = distinct g.T.Logged.entries
