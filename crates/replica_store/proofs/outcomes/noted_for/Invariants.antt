use Rattle.std.proofs.Common.{◌≡◌, drop}
use Rattle.replica_store.specs.Settling.{noted_for}
use Rattle.replica_store.proofs.outcomes.noted_for.Given as goal

abbrev pub invariant-loop-noted : goal.invariant-loop-noted
invariant-loop-noted l = noted_for l.id l.list ≡ noted_for l.id (drop l.noted-index l.list)
