use Rattle.std.proofs.Common.{◌≡◌, ◌≤◌, length, map, reverse, take, Some, is_some}
use Rattle.wavelet_op.specs.States.{role_of}
use Rattle.delta_history.specs.Points.{Point, start, replay}
use Rattle.robot_host.specs.Places.{AreNext}
use Rattle.robot_host.specs.Views.{view}
use Rattle.robot_host.proofs.places.places_from.Given as goal

abbrev pub invariant-loop-left : goal.invariant-loop-left
invariant-loop-left g l = record {
  next : AreNext (map (λ s. s.address) l.fn.seats) l.fn.address l.fn.history (view (map (λ s. s.address) l.fn.seats) l.fn.address l.fn.history l.left) (reverse l.places.items);
  here : (p : Point) → replay (start l.fn.history.name) (take l.left l.fn.history.deltas) ≡ Some p → l.here ≡ is_some (role_of p.state l.fn.address);
  above : l.fn.from ≤ l.left;
  within : l.left ≤ length l.fn.history.deltas;
  same : l.deltas ≡ l.fn.history.deltas;
}

abbrev pub decreases-loop-left : goal.decreases-loop-left
decreases-loop-left g l = l.left
