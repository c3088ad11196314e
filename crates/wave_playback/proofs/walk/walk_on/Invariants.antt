use Rattle.std.proofs.Common.{◌≡◌, ◌≤◌, length, Some}
use Rattle.state_cache.specs.States.{state_after}
use Rattle.wave_playback.specs.Places.{AreBacks}
use Rattle.wave_playback.proofs.walk.walk_on.Given as goal

abbrev pub invariant-loop-place : goal.invariant-loop-place
invariant-loop-place l = record {
  here : state_after l.fn.history.deltas l.place ≡ Some l.state;
  backs : AreBacks l.fn.history.deltas l.backs.items;
  longer : length l.fn.backs.items ≤ length l.backs.items;
  reached : l.place ≤ length l.backs.items;
}
