use Rattle.message_json.specs.declared.message.Message.TheVariants.{Update}
use Rattle.wave_messages.proofs.Depths.{message_depth}
use Rattle.wave_messages.proofs.Floats.{message_clear}
use Rattle.wave_messages.proofs.once.write_update.Goals as goal

pub compact-requires-clause-clear : goal.compact-requires-clause-clear
compact-requires-clause-clear c = rw c.in_ok-value.ensures.value (message_clear (Update c.args.name.now c.args.delta.now))

pub compact-requires-clause-shallow : goal.compact-requires-clause-shallow
compact-requires-clause-shallow c = rw c.in_ok-value.ensures.value (message_depth (Update c.args.name.now c.args.delta.now))
