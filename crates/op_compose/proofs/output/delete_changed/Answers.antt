use Rattle.op_compose.proofs.Runs.{text_disagrees_back}
use Rattle.op_compose.proofs.output.delete_changed.Goals as goal

pub returns-in-Characters : goal.returns-in-Characters
returns-in-Characters c = text_disagrees_back c.args.part c.args.run c.in-Characters.field-0 _ c.in-Characters.is c.requires.one
