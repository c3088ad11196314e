use Rattle.std.proofs.Common.{◌≡◌, drop, map}
use Rattle.wavelet_op.specs.Acts.{meanings}
use Rattle.follower_rules.specs.Followers.{run_all}
use Rattle.client_control.proofs.replay.run_all.Given as goal

abbrev pub invariant-loop-ops : goal.invariant-loop-ops
invariant-loop-ops l = run_all l.state (map meanings (drop l.ops-index l.queue)) ≡ run_all l.initial.state (map meanings l.queue)
