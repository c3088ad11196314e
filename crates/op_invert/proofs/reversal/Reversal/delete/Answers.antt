use Rattle.std.proofs.Common.{◌++◌, map, ap, ◌∙◌}
use Rattle.doc_items.specs.Changes.{ChangeSet, back}
use Rattle.doc_op.specs.Actions.{deletion}
use Rattle.doc_op.specs.Runs.{contents}
use Rattle.op_invert.proofs.reversal.Reversal.delete.Goals as goal

pub returns-clause-out : goal.returns-clause-out
returns-clause-out c = c.in_ok-delete.ensures.added ∙ ap (λ (u : ChangeSet). c.args.self.now.out ++ map (deletion u) (contents c.args.run)) (c.in_ok-named.ensures ∙ ap back c.in_ok-inserted.ensures)
