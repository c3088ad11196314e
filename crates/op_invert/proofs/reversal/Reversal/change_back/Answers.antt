use Rattle.std.proofs.Common.{[], ◌∷◌, ◌++◌, ap, ◌∙◌}
use Rattle.doc_items.specs.Changes.{ChangeSet}
use Rattle.doc_op.specs.Actions.{Keep}
use Rattle.doc_op.specs.Runs.{part_change}
use Rattle.op_compose.specs.Chains.{attributes_back}
use Rattle.op_invert.proofs.reversal.Reversal.change_back.Goals as goal

pub returns-clause-out : goal.returns-clause-out
returns-clause-out c = c.in_ok-write_back.ensures ∙ ap (λ (u : ChangeSet). c.args.self.now.out ++ Keep u (attributes_back (part_change c.args.part)) ∷ []) c.in_ok-turned.ensures
