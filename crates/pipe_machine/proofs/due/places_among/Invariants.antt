use Rattle.std.proofs.Common.{◌≡◌, ◌+◌, ◌++◌, drop, length}
use Rattle.pipe_machine.specs.Due.{due_among}
use Rattle.pipe_machine.specs.Runs.{seats_in}
use Rattle.pipe_machine.proofs.due.places_among.Given as goal

abbrev pub invariant-loop-run : goal.invariant-loop-run
invariant-loop-run l = record {
  whole : due_among l.due 0 (seats_in l.run-items) ≡ l.places.items ++ due_among l.due l.first (seats_in (drop l.run-index l.run-items));
  counted : l.first + length (seats_in (drop l.run-index l.run-items)) ≡ length (seats_in l.run-items);
}
