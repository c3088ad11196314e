use Rattle.doc_op.proofs.Switches.{on-started}
use Rattle.doc_op.proofs.running.RunningKeys.insert.Goals as goal

pub returns : goal.returns
returns c = on-started _ _ _ _ c.in_ok-reserve.ensures.same c.in_ok-reserve.ensures.there c.switch.ensures
