use Rattle.std.proofs.Common.{◌≡◌, ◌≤◌, ◌-◌, Some}
use Rattle.state_cache.specs.States.{state_after}
use Rattle.wave_playback.proofs.walk.walk_back.Given as goal

abbrev pub invariant-loop-place : goal.invariant-loop-place
invariant-loop-place l = record {
  here : state_after l.fn.history.deltas l.place ≡ Some l.state;
  low : l.fn.to ≤ l.place;
  high : l.place ≤ l.fn.from;
}

abbrev pub decreases-loop-place : goal.decreases-loop-place
decreases-loop-place l = l.place - l.fn.to
