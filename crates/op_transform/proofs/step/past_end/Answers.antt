use Rattle.doc_op.specs.Cursors.{left}
use Rattle.op_transform.specs.declared.taken.Taken.TheVariants.{Kept as KeptRun, Deleted as DeletedRun}
use Rattle.op_transform.proofs.Steps.{taking, no_insert_left, alone_earlier}
use Rattle.op_transform.proofs.step.past_end.Goals as goal

pub earlier_inserts-requires-clause-behind : goal.earlier_inserts-requires-clause-behind
earlier_inserts-requires-clause-behind c = no_insert_left _ c.requires.end

pub returns-in-Keeps : goal.returns-in-Keeps
returns-in-Keeps c = alone_earlier c.args.done.now (left c.args.l.now) (left c.args.e.now) c.requires.end (taking c.args.e.now c.args.e.now.under (KeptRun c.in-Keeps.field-0) c.in-Keeps.ensures.actions c.in-Keeps.ensures.fit)

pub returns-in-Deletes : goal.returns-in-Deletes
returns-in-Deletes c = alone_earlier c.args.done.now (left c.args.l.now) (left c.args.e.now) c.requires.end (taking c.args.e.now c.args.e.now.under (DeletedRun c.in-Deletes.field-0) c.in-Deletes.ensures.actions c.in-Deletes.ensures.fit)
