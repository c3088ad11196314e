use Rattle.std.proofs.Common.{◌≡◌, drop, map}
use Rattle.robot_host.specs.Views.{is_among}
use Rattle.robot_host.proofs.places.is_robot.Given as goal

abbrev pub invariant-loop-seat : goal.invariant-loop-seat
invariant-loop-seat g l = is_among l.fn.address (map (λ s. s.address) (drop l.seat-index l.fn.seats)) ≡ is_among l.fn.address (map (λ s. s.address) l.fn.seats)
