use Rattle.std.proofs.Common.{sym, ap, subst}
use Rattle.std.specs.FinMap as finite
use Rattle.replica_store.specs.Worlds.{Copies, AreNamed}
use Rattle.replica_store.proofs.Stored.{named_none}
use Rattle.replica_store.proofs.replicas.Replicas.new.Goals as goal

pub invariant_of-result : goal.invariant_of-result
invariant_of-result c = subst (λ (m : Copies). AreNamed m) (sym (ap finite.from_entries c.new.ensures.empty)) named_none
