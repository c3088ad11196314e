use Rattle.std.proofs.Common.{◌≤◌, ◌++◌, length, map, sym, ap, subst, ◌∙◌, arith}
use Rattle.doc_items.specs.Limits.{max_count}
use Rattle.change_view.specs.Sets.{as_deleted}
use Rattle.doc_op.specs.Actions.{deletion}
use Rattle.doc_op.specs.Lengths.{output_len}
use Rattle.doc_op.specs.Runs.{contents}
use Rattle.doc_op.proofs.Lengths.{input_len-deletions, output_len-deletions, input_room, output_room}
use Rattle.doc_op.proofs.Spelling.{deleted_twice, deletions_same}
use Rattle.doc_op.proofs.normal_builder.NormalBuilder.delete.Goals as goal

pub put_deleted-requires-clause-shown : goal.put_deleted-requires-clause-shown
put_deleted-requires-clause-shown c = ap as_deleted c.in_ok-shown.ensures ∙ deleted_twice c.args.changes.now ∙ sym c.in_ok-shown.ensures

pub put_deleted-requires-clause-input : goal.put_deleted-requires-clause-input
put_deleted-requires-clause-input c = input_room c.take-builder.result c.args.self.now (map (deletion c.in_ok-shown.shown) (contents c.args.run)) (length (contents c.args.run)) c.take-builder.ensures.taken (input_len-deletions c.in_ok-shown.shown (contents c.args.run)) c.requires

pub put_deleted-requires-clause-output : goal.put_deleted-requires-clause-output
put_deleted-requires-clause-output c = output_room c.take-builder.result c.args.self.now (map (deletion c.in_ok-shown.shown) (contents c.args.run)) 0 c.take-builder.ensures.taken (output_len-deletions c.in_ok-shown.shown (contents c.args.run))
    (omega (arith, subst (λ acts. output_len acts ≤ max_count) c.take-builder.ensures.taken c.take-builder.ensures.output))

pub returns-clause-added : goal.returns-clause-added
returns-clause-added c =
    let cs = contents c.args.run in
    c.in_ok-self.ensures ∙ (λ k. c.take-builder.ensures.taken k ++ map (deletion (c.in_ok-shown.ensures k)) cs) ∙ ap (λ acts. c.args.self.now ++ acts) (deletions_same c.args.changes.now cs)
