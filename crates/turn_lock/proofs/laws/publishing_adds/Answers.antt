use Rattle.turn_lock.proofs.Keeping.{publishing}
use Rattle.turn_lock.proofs.laws.publishing_adds.Goals as goal

pub returns : goal.returns
returns g c = publishing g.T.Logged.entries
