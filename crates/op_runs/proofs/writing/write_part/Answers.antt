use Rattle.std.proofs.Common.{subst}
use Rattle.doc_op.specs.Runs.{IsFitPart}
use Rattle.op_runs.proofs.Keys.{some_change}
use Rattle.op_runs.proofs.writing.write_part.Goals as goal

pub update-requires-clause-spelled : goal.update-requires-clause-spelled
update-requires-clause-spelled c =
    let fit = subst IsFitPart c.in-Update.is c.requires.fit in
    some_change c.in-Update.changes.now c.in_ok-view-in-Update.view fit.0 fit.1 c.in_ok-view-in-Update.ensures
