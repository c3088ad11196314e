use Rattle.std.proofs.Common.{◌≡◌, length, map}
use Rattle.robot_host.specs.Robots.{robot_by, addresses}
use Rattle.robot_host.specs.Turns.{HaveTurnedBelow}
use Rattle.robot_host.specs.Walks.{IsReached}
use Rattle.robot_host.proofs.progress.turn_all.Given as goal

abbrev pub invariant-loop-robot : goal.invariant-loop-robot
invariant-loop-robot g l = record {
  turns : HaveTurnedBelow l.robot (addresses (map (robot_by (λ b. (goal.Robot-dyn g (b.vtable, b.value)).calls b.value)) l.fn.seats)) l.fn.history (map (robot_by (λ b. (goal.Robot-dyn g (b.vtable, b.value)).calls b.value)) l.fn.seats) (map (robot_by (λ b. (goal.Robot-dyn g (b.vtable, b.value)).calls b.value)) l.seats) l.fn.progress.counts.items l.progress.counts.items l.fn.progress.edits.items l.progress.edits.items;
  addresses : addresses (map (robot_by (λ b. (goal.Robot-dyn g (b.vtable, b.value)).calls b.value)) l.seats) ≡ addresses (map (robot_by (λ b. (goal.Robot-dyn g (b.vtable, b.value)).calls b.value)) l.fn.seats);
  seats : length l.seats ≡ length l.fn.seats;
  counts : length l.progress.counts.items ≡ length l.fn.progress.counts.items;
  reached : IsReached l.fn.history.deltas l.walk;
}
