use Rattle.std.proofs.Common.{◌++◌, map, sym, ◌∙◌}
use Rattle.std.proofs.lemmas.Bool.{and_from}
use Rattle.doc_op.specs.Actions.{deletion}
use Rattle.doc_op.specs.Runs.{contents}
use Rattle.op_runs.proofs.Runs.{all_unchanged, put_all_unchanged}
use Rattle.op_compose.proofs.output.delete_same.Goals as goal

pub returns : goal.returns
returns c = (
  and_from _ _ (all_unchanged (contents c.args.run)) (sym c.passes.ensures ∙ c.if-not-passes.false),
  c.in_ok-delete.ensures.added ∙ (λ i. c.args.out.now ++ map (deletion (c.in_ok-both.ensures i)) (sym (put_all_unchanged (contents c.args.run)) i)),
)
