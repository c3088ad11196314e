use Rattle.std.proofs.Common.{◌≤◌, ◌-◌, length}
use Rattle.pipe_machine.specs.Runs.{seats_in}
use Rattle.pipe_machine.specs.Seats.{place_in}
use Rattle.pipe_machine.proofs.runs.place_of.Given as goal

abbrev pub invariant-loop-low : goal.invariant-loop-low
invariant-loop-low l = record {
  low : l.low ≤ place_in l.fn.name 0 (seats_in l.fn.runs);
  high : place_in l.fn.name 0 (seats_in l.fn.runs) ≤ l.high;
  bound : l.high ≤ length (seats_in l.fn.runs);
}

abbrev pub decreases-loop-low : goal.decreases-loop-low
decreases-loop-low l = l.high - l.low
