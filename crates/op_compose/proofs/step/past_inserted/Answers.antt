use Rattle.std.proofs.Common.{refl}
use Rattle.doc_op.specs.Cursors.{left}
use Rattle.doc_op.specs.Runs.{contents}
use Rattle.op_compose.proofs.Steps.{giving_inserted, ends_here}
use Rattle.op_compose.proofs.step.past_inserted.Goals as goal

pub second_inserts-requires-clause-behind : goal.second_inserts-requires-clause-behind
second_inserts-requires-clause-behind c = (giving_inserted c.args.f.now c.args.f.now.under (contents c.args.run) c.requires.ahead c.requires.some).no_delete

pub returns-in-Nothing : goal.returns-in-Nothing
returns-in-Nothing c = ends_here c.args.done.now _ _ (left c.args.f.now) _ refl c.in-Nothing.ensures.end (giving_inserted c.args.f.now c.args.f.now.under (contents c.args.run) c.requires.ahead c.requires.some).alone
