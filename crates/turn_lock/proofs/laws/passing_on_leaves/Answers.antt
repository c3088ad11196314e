use Rattle.turn_lock.proofs.Keeping.{passing_keeps}
use Rattle.turn_lock.proofs.laws.passing_on_leaves.Goals as goal

pub returns : goal.returns
returns g c = passing_keeps g.T.Logged.entries
