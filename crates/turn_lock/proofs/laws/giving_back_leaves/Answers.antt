use Rattle.turn_lock.proofs.Keeping.{gives_keep, gives_new_keep}
use Rattle.turn_lock.proofs.laws.giving_back_leaves.Goals as goal

pub returns : goal.returns
returns g c = record { same = gives_keep g.T.Logged.entries; new = gives_new_keep g.T.Logged.entries }
