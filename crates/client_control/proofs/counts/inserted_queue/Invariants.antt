use Rattle.std.proofs.Common.{◌≡◌, ◌+◌, drop, map}
use Rattle.wavelet_op.specs.Acts.{meanings}
use Rattle.follower_rules.specs.Followers.{inserted_all}
use Rattle.client_control.proofs.counts.inserted_queue.Given as goal

abbrev pub invariant-loop-ops : goal.invariant-loop-ops
invariant-loop-ops l = l.sum + inserted_all (map meanings (drop l.ops-index l.queue)) ≡ inserted_all (map meanings l.queue)
