use Rattle.op_runs.proofs.Runs.{text_disagrees}
use Rattle.op_compose.proofs.output.insert_changed.Goals as goal

pub returns-in-Characters : goal.returns-in-Characters
returns-in-Characters c = text_disagrees c.args.part c.args.run c.in-Characters.field-0 _ c.in-Characters.is c.requires.one
