use Rattle.op_compose.proofs.Keys.{then_some}
use Rattle.op_compose.proofs.attributes.write_update_then.Goals as goal

pub update-requires-clause-spelled : goal.update-requires-clause-spelled
update-requires-clause-spelled c = then_some c.args.changes.now c.in_ok-before-in-Update.before c.in_ok-behind-in-Update.behind c.in_ok-both-in-Update.both c.requires.some c.requires.ascending c.in_ok-before-in-Update.ensures c.in_ok-both-in-Update.ensures
