use Rattle.doc_op.specs.Cursors.{left}
use Rattle.op_compose.proofs.Steps.{giving_kept, ends_here}
use Rattle.std.proofs.Common.{refl}
use Rattle.op_compose.proofs.step.past_kept.Goals as goal

pub second_inserts-requires-clause-behind : goal.second_inserts-requires-clause-behind
second_inserts-requires-clause-behind c = (giving_kept c.args.f.now c.args.f.now.under c.args.x c.requires.ahead c.requires.fit).no_delete

pub returns-in-Nothing : goal.returns-in-Nothing
returns-in-Nothing c = ends_here c.args.done.now _ _ (left c.args.f.now) _ refl c.in-Nothing.ensures.end (giving_kept c.args.f.now c.args.f.now.under c.args.x c.requires.ahead c.requires.fit).alone
