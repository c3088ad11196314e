use Rattle.std.proofs.Common.{◌≡◌, ◌+◌, ◌++◌, drop}
use Rattle.pipe_machine.specs.Due.{due_among}
use Rattle.pipe_machine.proofs.due.push_due.Given as goal

abbrev pub invariant-loop-index : goal.invariant-loop-index
invariant-loop-index l = l.fn.places.items ++ due_among l.due l.first l.seats ≡ l.places.items ++ due_among l.due (l.first + l.index) (drop l.index l.seats)
