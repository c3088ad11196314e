use Rattle.std.proofs.Common.{ap, arith, ◌∙◌}
use Rattle.change_view.specs.Sets.{as_inserted, as_deleted}
use Rattle.doc_op.specs.declared.normal_output.Kind.TheVariants.{Kept, Inserted, Deleted}
use Rattle.doc_op.specs.Actions.{Unchanged}
use Rattle.doc_op.specs.Lengths.{input_len, output_len}
use Rattle.doc_op.specs.Normal.{shown_last}
use Rattle.doc_op.specs.Runs.{contents, part_change}
use Rattle.doc_op.proofs.Lengths.{input_len-kept, output_len-kept, output_len-insertions, input_len-deletions}
use Rattle.doc_op.proofs.Shown.{shown_kept}
use Rattle.doc_op.proofs.UpToDate.{shown_of_insertions, shown_of_deletions, noted}
use Rattle.doc_op.proofs.normal_output.NormalOutput.add.Goals as goal

pub keep_run-requires-clause-input : goal.keep_run-requires-clause-input
keep_run-requires-clause-input c = omega (arith, c.requires.input, ap input_len c.turn.ensures.builder, ap input_len c.in-Keep.ensures.front, input_len-kept c.in-Keep.count c.args.cursor.now.under Unchanged)

pub keep_run-requires-clause-output : goal.keep_run-requires-clause-output
keep_run-requires-clause-output c = omega (arith, c.requires.output, ap output_len c.turn.ensures.builder, ap output_len c.in-Keep.ensures.front, output_len-kept c.in-Keep.count c.args.cursor.now.under Unchanged)

pub insert_run-requires-clause-output : goal.insert_run-requires-clause-output
insert_run-requires-clause-output c = omega (arith, c.requires.output, ap output_len c.turn-in-Insert.ensures.builder, ap output_len c.in-Insert.ensures.front, output_len-insertions c.args.cursor.now.under (contents c.in-Insert.run'))

pub delete_run-requires-clause-input : goal.delete_run-requires-clause-input
delete_run-requires-clause-input c = omega (arith, c.requires.input, ap input_len c.turn-in-Delete.ensures.builder, ap input_len c.in-Delete.ensures.front, input_len-deletions c.args.cursor.now.under (contents c.in-Delete.run'))

pub returns-in_ok-keep_run-in-Keep-clause-known : goal.returns-in_ok-keep_run-in-Keep-clause-known
returns-in_ok-keep_run-in-Keep-clause-known c =
    let out = c.note.new.self in
    noted out.touched out.kind Kept out.builder c.args.cursor.now.under c.note.ensures.touched c.note.ensures.kind
    (ap shown_last (c.note.ensures.builder ∙ c.in_ok-keep_run-in-Keep.ensures)
    ∙ shown_kept c.turn.new.self.builder c.in-Keep.count c.running.result.now Unchanged c.in-Keep.ensures.fit ∙ c.running.ensures)

pub returns-in_ok-change_item-in-Change-clause-known : goal.returns-in_ok-change_item-in-Change-clause-known
returns-in_ok-change_item-in-Change-clause-known c =
    let out = c.note-in-Change.new.self in
    noted out.touched out.kind Kept out.builder c.args.cursor.now.under c.note-in-Change.ensures.touched c.note-in-Change.ensures.kind
    (ap shown_last (c.note-in-Change.ensures.builder ∙ c.in_ok-change_item-in-Change.ensures)
    ∙ shown_kept c.args.self.now.builder 1 c.running-in-Change.result.now (part_change c.in-Change.part) (omega arith) ∙ c.running-in-Change.ensures)

pub returns-in_ok-insert_run-in-Insert-clause-known : goal.returns-in_ok-insert_run-in-Insert-clause-known
returns-in_ok-insert_run-in-Insert-clause-known c =
    let out = c.note-in-Insert.new.self in
    noted out.touched out.kind Inserted out.builder c.args.cursor.now.under c.note-in-Insert.ensures.touched c.note-in-Insert.ensures.kind
    (ap shown_last (c.note-in-Insert.ensures.builder ∙ c.in_ok-insert_run-in-Insert.ensures)
    ∙ shown_of_insertions c.turn-in-Insert.new.self.builder c.running-in-Insert.result.now (contents c.in-Insert.run') c.in-Insert.ensures.fit ∙ ap as_inserted c.running-in-Insert.ensures)

pub returns-in_ok-delete_run-in-Delete-clause-known : goal.returns-in_ok-delete_run-in-Delete-clause-known
returns-in_ok-delete_run-in-Delete-clause-known c =
    let out = c.note-in-Delete.new.self in
    noted out.touched out.kind Deleted out.builder c.args.cursor.now.under c.note-in-Delete.ensures.touched c.note-in-Delete.ensures.kind
    (ap shown_last (c.note-in-Delete.ensures.builder ∙ c.in_ok-delete_run-in-Delete.ensures)
    ∙ shown_of_deletions c.turn-in-Delete.new.self.builder c.running-in-Delete.result.now (contents c.in-Delete.run') c.in-Delete.ensures.fit ∙ ap as_deleted c.running-in-Delete.ensures)
