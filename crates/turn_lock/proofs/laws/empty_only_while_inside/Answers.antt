use Rattle.turn_lock.proofs.Keeping.{empty_inside}
use Rattle.turn_lock.proofs.laws.empty_only_while_inside.Goals as goal

pub returns : goal.returns
returns g c = empty_inside g.T.Logged.entries
