use Rattle.std.proofs.Common.{◌≤◌, ◌++◌, length, map, sym, ap, subst, ◌∙◌, arith}
use Rattle.doc_items.specs.Limits.{max_count}
use Rattle.change_view.specs.Sets.{as_inserted}
use Rattle.doc_op.specs.Actions.{insertion}
use Rattle.doc_op.specs.Lengths.{input_len}
use Rattle.doc_op.specs.Runs.{contents}
use Rattle.doc_op.proofs.Lengths.{input_len-insertions, output_len-insertions, input_room, output_room}
use Rattle.doc_op.proofs.Spelling.{inserted_twice, insertions_same}
use Rattle.doc_op.proofs.normal_builder.NormalBuilder.insert.Goals as goal

pub put_inserted-requires-clause-shown : goal.put_inserted-requires-clause-shown
put_inserted-requires-clause-shown c = ap as_inserted c.in_ok-shown.ensures ∙ inserted_twice c.args.changes.now ∙ sym c.in_ok-shown.ensures

pub put_inserted-requires-clause-input : goal.put_inserted-requires-clause-input
put_inserted-requires-clause-input c = input_room c.take-builder.result c.args.self.now (map (insertion c.in_ok-shown.shown) (contents c.args.run)) 0 c.take-builder.ensures.taken (input_len-insertions c.in_ok-shown.shown (contents c.args.run))
    (omega (arith, subst (λ acts. input_len acts ≤ max_count) c.take-builder.ensures.taken c.take-builder.ensures.input))

pub put_inserted-requires-clause-output : goal.put_inserted-requires-clause-output
put_inserted-requires-clause-output c = output_room c.take-builder.result c.args.self.now (map (insertion c.in_ok-shown.shown) (contents c.args.run)) (length (contents c.args.run)) c.take-builder.ensures.taken (output_len-insertions c.in_ok-shown.shown (contents c.args.run)) c.requires

pub returns-clause-added : goal.returns-clause-added
returns-clause-added c =
    let cs = contents c.args.run in
    c.in_ok-self.ensures ∙ (λ k. c.take-builder.ensures.taken k ++ map (insertion (c.in_ok-shown.ensures k)) cs) ∙ ap (λ acts. c.args.self.now ++ acts) (insertions_same c.args.changes.now cs)
