use Rattle.replica_store.proofs.Newest.{newest_once, newest_stay}
use Rattle.replica_store.proofs.laws.newest_verdicts_stay.Goals as goal

pub returns-clause-once : goal.returns-clause-once
returns-clause-once c = newest_once

pub returns-clause-stay : goal.returns-clause-stay
returns-clause-stay c = newest_stay
