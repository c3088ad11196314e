use Rattle.std.proofs.Common.{rules}
use Rattle.turn_lock.proofs.Beginnings.{is_out}
use Rattle.turn_lock.proofs.Allowed.{looks_head}
use Rattle.turn_lock.proofs.cell.TurnCell.head.Goals as goal

pub load-requires : goal.load-requires
load-requires g c = (search rules, search rules, looks_head g.T.Logged.entries _ _ _ (is_out _ c.requires.2))
