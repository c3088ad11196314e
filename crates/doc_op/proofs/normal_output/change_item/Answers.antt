use Rattle.std.proofs.Common.{sym, subst, ◌∙◌}
use Rattle.doc_op.specs.Runs.{IsFitPart}
use Rattle.doc_op.proofs.Cursors.{some_changes}
use Rattle.doc_op.proofs.normal_output.change_item.Goals as goal

pub update-requires-clause-spelled : goal.update-requires-clause-spelled
update-requires-clause-spelled c =
    let fit = subst IsFitPart c.in-Update.is c.requires.fit in
    let same = c.in_ok-updates-in-Update.ensures in
    λ e. some_changes c.in-Update.updates.now fit.0 fit.1 (sym same ∙ e)
