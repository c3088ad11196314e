use Rattle.std.proofs.Common.{ap, ◌∙◌, arith}
use Rattle.doc_op.specs.Actions.{Unchanged}
use Rattle.doc_op.specs.Lengths.{input_len, output_len}
use Rattle.doc_op.specs.Runs.{contents, part_change}
use Rattle.doc_op.proofs.Lengths.{input_len-kept, output_len-kept, output_len-insertions, input_len-deletions}
use Rattle.op_invert.specs.Walks.{items_of}
use Rattle.op_invert.proofs.Steps.{undone_kept, undone_inserted, undone_deleted}
use Rattle.op_invert.proofs.reversal.Reversal.undo.Goals as goal

pub keep-requires-clause-place : goal.keep-requires-clause-place
keep-requires-clause-place c = omega (arith, c.requires.room.place, c.requires.bound, ap input_len c.in-Keep.ensures.front, input_len-kept c.in-Keep.count c.args.cursor.now.under Unchanged)

pub keep-requires-clause-input : goal.keep-requires-clause-input
keep-requires-clause-input c = omega (arith, c.requires.room.input, ap output_len c.in-Keep.ensures.front, output_len-kept c.in-Keep.count c.args.cursor.now.under Unchanged)

pub keep-requires-clause-output : goal.keep-requires-clause-output
keep-requires-clause-output c = omega (arith, c.requires.room.output, ap input_len c.in-Keep.ensures.front, input_len-kept c.in-Keep.count c.args.cursor.now.under Unchanged)

pub returns-in-Keep-clause-undone : goal.returns-in-Keep-clause-undone
returns-in-Keep-clause-undone c = undone_kept (items_of c.args.items) _ _ _ _ _ Unchanged _ c.in-Keep.ensures.front (c.in_ok-changes.ensures ∙ c.running.ensures)
    (omega (arith, c.requires.room.place, ap input_len c.in-Keep.ensures.front, input_len-kept c.in-Keep.count c.args.cursor.now.under Unchanged))
    c.in_ok-keep-in-Keep.ensures.out c.in_ok-keep-in-Keep.ensures.place

pub change_back-requires-clause-place : goal.change_back-requires-clause-place
change_back-requires-clause-place c = omega (arith, c.requires.room.place, c.requires.bound, ap input_len c.in-Change.ensures.front)

pub change_back-requires-clause-input : goal.change_back-requires-clause-input
change_back-requires-clause-input c = omega (arith, c.requires.room.input, ap output_len c.in-Change.ensures.front)

pub change_back-requires-clause-output : goal.change_back-requires-clause-output
change_back-requires-clause-output c = omega (arith, c.requires.room.output, ap input_len c.in-Change.ensures.front)

pub returns-in-Change-clause-undone : goal.returns-in-Change-clause-undone
returns-in-Change-clause-undone c = undone_kept (items_of c.args.items) _ _ _ _ _ (part_change c.in-Change.part) 1 c.in-Change.ensures.front (c.in_ok-changes.ensures ∙ c.running.ensures)
    (omega (arith, c.requires.room.place, ap input_len c.in-Change.ensures.front))
    c.in_ok-change_back-in-Change.ensures.out c.in_ok-change_back-in-Change.ensures.place

pub delete-requires : goal.delete-requires
delete-requires c = omega (arith, c.requires.room.input, ap output_len c.in-Insert.ensures.front, output_len-insertions c.args.cursor.now.under (contents c.in-Insert.run'))

pub returns-in-Insert-clause-undone : goal.returns-in-Insert-clause-undone
returns-in-Insert-clause-undone c = undone_inserted (items_of c.args.items) _ _ _ _ _ (contents c.in-Insert.run') c.in-Insert.ensures.front (c.in_ok-changes.ensures ∙ c.running.ensures)
    c.in_ok-delete-in-Insert.ensures.out c.delete.ensures.place

pub put_back-requires-clause-place : goal.put_back-requires-clause-place
put_back-requires-clause-place c = omega (arith, c.requires.room.place, c.len-in-Delete.ensures, ap input_len c.in-Delete.ensures.front, input_len-deletions c.args.cursor.now.under (contents c.in-Delete.run'))

pub put_back-requires-clause-output : goal.put_back-requires-clause-output
put_back-requires-clause-output c = omega (arith, c.requires.room.output, c.len-in-Delete.ensures, ap input_len c.in-Delete.ensures.front, input_len-deletions c.args.cursor.now.under (contents c.in-Delete.run'))

pub returns-in-Delete-clause-undone : goal.returns-in-Delete-clause-undone
returns-in-Delete-clause-undone c = undone_deleted (items_of c.args.items) _ _ _ _ (contents c.in-Delete.run') _ c.in-Delete.ensures.front c.len-in-Delete.ensures
    (omega (arith, c.requires.room.place, c.len-in-Delete.ensures, ap input_len c.in-Delete.ensures.front, input_len-deletions c.args.cursor.now.under (contents c.in-Delete.run')))
    c.in_ok-put_back-in-Delete.ensures.out c.in_ok-put_back-in-Delete.ensures.place
