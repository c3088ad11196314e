use Rattle.turn_lock.proofs.Keeping.{splitting_keeps}
use Rattle.turn_lock.proofs.laws.splitting_leaves.Goals as goal

pub returns : goal.returns
returns g c = splitting_keeps g.T.Logged.entries
