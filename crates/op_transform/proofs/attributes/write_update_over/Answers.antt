use Rattle.op_transform.proofs.Keys.{over_some, start_some}
use Rattle.op_transform.proofs.attributes.write_update_over.Goals as goal

pub update-requires-clause-spelled : goal.update-requires-clause-spelled
update-requires-clause-spelled c = over_some c.args.changes.now c.in_ok-mine.mine c.in_ok-theirs-in-Update.theirs c.in_ok-over-in-Update.over c.requires.some c.requires.ascending c.in_ok-mine.ensures c.in_ok-over-in-Update.ensures

pub update-requires-in-Replace-clause-spelled : goal.update-requires-in-Replace-clause-spelled
update-requires-in-Replace-clause-spelled c = start_some c.args.changes.now c.in_ok-mine.mine c.in-Replace.new.now c.in_ok-over-in-Replace.over c.requires.some c.requires.ascending c.in_ok-mine.ensures c.in_ok-over-in-Replace.ensures
