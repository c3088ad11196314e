use Rattle.std.proofs.Common.{◌++◌, replicate, ap, ◌∙◌}
use Rattle.doc_items.specs.Changes.{ChangeSet}
use Rattle.doc_op.specs.Actions.{keep}
use Rattle.op_invert.proofs.reversal.Reversal.keep.Goals as goal

pub returns-clause-out : goal.returns-clause-out
returns-clause-out c = c.in_ok-keep.ensures.added ∙ ap (λ (u : ChangeSet). c.args.self.now.out ++ replicate c.args.count (keep u)) c.in_ok-turned.ensures
