use Rattle.turn_lock.proofs.Keeping.{takes_keep}
use Rattle.turn_lock.proofs.laws.taking_leaves.Goals as goal

pub returns : goal.returns
returns g c = takes_keep g.T.Logged.entries
