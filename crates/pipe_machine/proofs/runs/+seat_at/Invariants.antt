use Rattle.std.proofs.Common.{length}
use Rattle.pipe_machine.proofs.runs.+seat_at.Given as goal

abbrev pub decreases-seat_at : goal.decreases-seat_at
decreases-seat_at l = length l.runs.now
