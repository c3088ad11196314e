use Rattle.std.proofs.Common.{◌≤◌, length}
use Rattle.wavelet_container.specs.Trails.{IsTrail}
use Rattle.wavelet_container.proofs.trail.go_back.Given as goal

abbrev pub invariant-loop-trail : goal.invariant-loop-trail
invariant-loop-trail l = record {
  trail : IsTrail l.deltas l.trail;
  kept : l.trail.first ≤ l.place;
}

abbrev pub decreases-loop-trail : goal.decreases-loop-trail
decreases-loop-trail l = length l.trail.backs.items
