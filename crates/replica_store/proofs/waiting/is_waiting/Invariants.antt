use Rattle.std.proofs.Common.{◌≡◌, drop}
use Rattle.follower_rules.specs.Replicas.{is_waiting}
use Rattle.replica_store.proofs.waiting.is_waiting.Given as goal

abbrev pub invariant-loop-submission : goal.invariant-loop-submission
invariant-loop-submission l = is_waiting l.id l.list ≡ is_waiting l.id (drop l.submission-index l.list)
