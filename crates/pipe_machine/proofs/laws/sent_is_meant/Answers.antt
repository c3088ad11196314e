use Rattle.pipe_machine.proofs.Ordering as ordering
use Rattle.pipe_machine.proofs.laws.sent_is_meant.Goals as goal

pub returns : goal.returns
returns c = ordering.sent_is_meant
