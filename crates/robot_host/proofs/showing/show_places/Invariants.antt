use Rattle.std.proofs.Common.{◌≡◌, true, length, reverse}
use Rattle.robot_host.specs.Places.{AreWithin}
use Rattle.robot_host.specs.Robots.{robot_by, is_here}
use Rattle.robot_host.specs.Showing.{HasShown}
use Rattle.robot_host.specs.Walks.{IsReached}
use Rattle.robot_host.proofs.showing.show_places.Given as goal

abbrev pub invariant-loop-place : goal.invariant-loop-place
invariant-loop-place g l = record {
  shown : HasShown l.fn.history l.fn.robot (reverse l.fn.places.items) (reverse l.left.items) l.fn.count (robot_by (λ b. (goal.Robot-dyn g (b.vtable, b.value)).calls b.value) l.fn.seat) (robot_by (λ b. (goal.Robot-dyn g (b.vtable, b.value)).calls b.value) l.seat) l.count l.fn.edits.items l.edits.items;
  here : is_here l.seat.robot ≡ true;
  within : AreWithin (length l.fn.history.deltas) (reverse l.left.items);
  reached : IsReached l.fn.history.deltas l.walk;
}

abbrev pub decreases-loop-place : goal.decreases-loop-place
decreases-loop-place g l = length l.left.items
