use Rattle.std.proofs.Common.{◌≡◌, ◌≤◌, drop, length}
use Rattle.wavelet_op.specs.Acts.{meanings}
use Rattle.robot_host.specs.Presence.{were_before}
use Rattle.robot_host.proofs.presence.were_before.Given as goal

abbrev pub invariant-loop-left : goal.invariant-loop-left
invariant-loop-left l = record {
  here : were_before l.fn.address (meanings (drop l.left l.fn.ops)) l.fn.now ≡ l.here;
  within : l.left ≤ length l.fn.ops;
  same : l.list ≡ l.fn.ops;
}

abbrev pub decreases-loop-left : goal.decreases-loop-left
decreases-loop-left l = l.left
