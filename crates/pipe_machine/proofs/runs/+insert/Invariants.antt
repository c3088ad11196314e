use Rattle.std.proofs.Common.{length}
use Rattle.pipe_machine.proofs.runs.+insert.Given as goal

abbrev pub decreases-insert : goal.decreases-insert
decreases-insert l = length l.runs.now
