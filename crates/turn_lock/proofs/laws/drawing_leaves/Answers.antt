use Rattle.turn_lock.proofs.Keeping.{draws_keep}
use Rattle.turn_lock.proofs.laws.drawing_leaves.Goals as goal

pub returns : goal.returns
returns g c = draws_keep g.T.Logged.entries
