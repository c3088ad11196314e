use Rattle.doc_op.specs.Cursors.{left}
use Rattle.op_transform.proofs.Steps.{taking, alone_later}
use Rattle.op_transform.proofs.step.past_taken.Goals as goal

pub earlier_inserts-requires-clause-behind : goal.earlier_inserts-requires-clause-behind
earlier_inserts-requires-clause-behind c = (taking c.args.l.now c.args.l.now.under c.args.x c.requires.ahead c.requires.fit).no_insert

pub returns-in-Nothing : goal.returns-in-Nothing
returns-in-Nothing c = alone_later c.args.done.now (left c.args.l.now) (left c.args.e.now) (taking c.args.l.now c.args.l.now.under c.args.x c.requires.ahead c.requires.fit) c.in-Nothing.ensures.end
