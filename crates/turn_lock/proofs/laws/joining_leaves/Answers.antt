use Rattle.turn_lock.proofs.Keeping.{joining_keeps}
use Rattle.turn_lock.proofs.laws.joining_leaves.Goals as goal

pub returns : goal.returns
returns g c = joining_keeps g.T.Logged.entries
