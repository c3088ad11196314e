use Rattle.std.proofs.Common.{length}
use Rattle.pipe_machine.proofs.deliver.+deliver_at.Given as goal

abbrev pub decreases-deliver_at : goal.decreases-deliver_at
decreases-deliver_at g l = length l.runs.now
