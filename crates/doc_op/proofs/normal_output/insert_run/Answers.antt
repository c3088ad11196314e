use Rattle.std.proofs.Common.{◌++◌, map, sym, ap, ◌∙◌}
use Rattle.change_view.specs.Sets.{as_inserted}
use Rattle.doc_op.specs.Actions.{insertion}
use Rattle.doc_op.specs.Runs.{contents}
use Rattle.doc_op.proofs.Spelling.{inserted_twice, insertions_same}
use Rattle.doc_op.proofs.normal_output.insert_run.Goals as goal

pub insert_joint-requires-clause-shown : goal.insert_joint-requires-clause-shown
insert_joint-requires-clause-shown c = ap as_inserted c.joint.ensures ∙ inserted_twice c.args.running.now ∙ sym c.joint.ensures

pub returns-in_ok-insert_joint-in-Some : goal.returns-in_ok-insert_joint-in-Some
returns-in_ok-insert_joint-in-Some c =
    let cs = contents c.args.run in
    c.in_ok-insert_joint-in-Some.ensures.added ∙ ap (λ u. c.args.out.now ++ map (insertion u) cs) c.joint.ensures ∙ ap (λ acts. c.args.out.now ++ acts) (insertions_same c.args.running.now cs)
