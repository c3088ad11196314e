use Rattle.turn_lock.proofs.Beginnings.{is_out}
use Rattle.turn_lock.proofs.Allowed.{closes_full}
use Rattle.turn_lock.proofs.cell.TurnCell.close.Goals as goal

pub returns-then-out-eq0 : goal.returns-then-out-eq0
returns-then-out-eq0 g c =
    record { some = closes_full g.T.Logged.entries _ _ _ _ _ _ (is_out _ c.requires.2) c.close_with-closed.ensures.values.2 c.word-out.ensures c.if-out-eq0.true c.take-slot.ensures.value }
