use Rattle.turn_lock.proofs.Keeping.{one_inside}
use Rattle.turn_lock.proofs.laws.one_is_inside.Goals as goal

pub returns : goal.returns
returns g c = one_inside g.T.Logged.entries
