use Rattle.turn_lock.proofs.Keeping.{seen_begins}
use Rattle.turn_lock.proofs.laws.seen_begins_the_history.Goals as goal

pub returns : goal.returns
returns g c = seen_begins g.T.Logged.entries
