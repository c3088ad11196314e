use Rattle.std.proofs.Common.{[], refl}
use Rattle.doc_op.specs.Cursors.{left}
use Rattle.doc_op.specs.Runs.{contents}
use Rattle.op_compose.proofs.Steps.{no_delete_left, taking_kept, taking_deleted, ends_here}
use Rattle.op_compose.proofs.step.past_end.Goals as goal

pub second_inserts-requires-clause-behind : goal.second_inserts-requires-clause-behind
second_inserts-requires-clause-behind c = no_delete_left _ c.requires.end

pub returns-in-Deletes : goal.returns-in-Deletes
returns-in-Deletes c = ends_here c.args.done.now _ _ [] (left c.args.s.now) c.requires.end refl (taking_deleted c.args.s.now c.args.s.now.under (contents c.in-Deletes.field-0) c.in-Deletes.ensures.actions c.in-Deletes.ensures.fit)

pub returns-in-Keeps : goal.returns-in-Keeps
returns-in-Keeps c = ends_here c.args.done.now _ _ [] (left c.args.s.now) c.requires.end refl (taking_kept c.args.s.now c.args.s.now.under c.in-Keeps.field-0 c.in-Keeps.ensures.actions c.in-Keeps.ensures.fit)
