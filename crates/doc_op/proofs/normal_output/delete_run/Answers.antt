use Rattle.std.proofs.Common.{◌++◌, map, sym, ap, ◌∙◌}
use Rattle.change_view.specs.Sets.{as_deleted}
use Rattle.doc_op.specs.Actions.{deletion}
use Rattle.doc_op.specs.Runs.{contents}
use Rattle.doc_op.proofs.Spelling.{deleted_twice, deletions_same}
use Rattle.doc_op.proofs.normal_output.delete_run.Goals as goal

pub delete_joint-requires-clause-shown : goal.delete_joint-requires-clause-shown
delete_joint-requires-clause-shown c = ap as_deleted c.joint.ensures ∙ deleted_twice c.args.running.now ∙ sym c.joint.ensures

pub returns-in_ok-delete_joint-in-Some : goal.returns-in_ok-delete_joint-in-Some
returns-in_ok-delete_joint-in-Some c =
    let cs = contents c.args.run in
    c.in_ok-delete_joint-in-Some.ensures.added ∙ ap (λ u. c.args.out.now ++ map (deletion u) cs) c.joint.ensures ∙ ap (λ acts. c.args.out.now ++ acts) (deletions_same c.args.running.now cs)
