use Rattle.std.proofs.Common.{◌≤◌, ◌-◌}
use Rattle.wavelet_container.specs.Trails.{IsTrail, place_of}
use Rattle.wavelet_container.proofs.trail.go_forward.Given as goal

abbrev pub invariant-loop-trail : goal.invariant-loop-trail
invariant-loop-trail l = record {
  trail : IsTrail l.deltas l.trail;
  before : place_of l.trail ≤ l.place;
}

abbrev pub decreases-loop-trail : goal.decreases-loop-trail
decreases-loop-trail l = l.place - place_of l.trail
