use Rattle.turn_lock.proofs.Keeping.{inside_empty}
use Rattle.turn_lock.proofs.laws.empty_while_inside.Goals as goal

pub returns : goal.returns
returns g c = inside_empty g.T.Logged.entries
