use Rattle.pipe_machine.proofs.Holding.{begins_held, after_begins, all_held}
use Rattle.pipe_machine.proofs.laws.sent_is_held.Goals as goal

pub returns : goal.returns
returns c = record { all_held = all_held; longer = begins_held; goes_on = after_begins }
