use Rattle.replica_store.proofs.Absorbs.{takes, takes_next}
use Rattle.replica_store.proofs.laws.copies_absorb.Goals as goal

pub returns-clause-absorbs : goal.returns-clause-absorbs
returns-clause-absorbs c = takes

pub returns-clause-next : goal.returns-clause-next
returns-clause-next c = takes_next
