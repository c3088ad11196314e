use Rattle.std.proofs.Common.{sym, ap, subst, ◌∙◌}
use Rattle.doc_items.specs.Changes.{back, change_set}
use Rattle.doc_op.specs.Runs.{IsFitPart}
use Rattle.doc_op.proofs.Cursors.{some_changes}
use Rattle.op_invert.proofs.Turning.{back_some}
use Rattle.op_invert.proofs.reversal.write_back.Goals as goal

pub update-requires-clause-spelled : goal.update-requires-clause-spelled
update-requires-clause-spelled c =
    let fit = subst IsFitPart c.in-Update.is c.requires.fit in
    let some = some_changes c.in-Update.updates.now fit.0 fit.1 in
    λ e. back_some (change_set c.in-Update.updates.now) some (ap back (sym c.in_ok-updates-in-Update.ensures) ∙ sym c.in_ok-turned-in-Update.ensures ∙ e)
