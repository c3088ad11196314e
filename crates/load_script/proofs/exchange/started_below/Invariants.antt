use Rattle.std.proofs.Common.{◌≤◌, length}
use Rattle.delta_history.specs.Places.{started_below}
use Rattle.load_script.proofs.exchange.started_below.Given as goal

abbrev pub invariant-loop-place : goal.invariant-loop-place
invariant-loop-place l = record {
  high : started_below l.fn.version l.fn.deltas ≤ l.place;
  bound : l.place ≤ length l.fn.deltas;
}

abbrev pub decreases-loop-place : goal.decreases-loop-place
decreases-loop-place l = l.place
