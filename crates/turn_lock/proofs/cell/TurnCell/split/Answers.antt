use Rattle.std.proofs.Common.{rules}
use Rattle.turn_lock.proofs.Beginnings.{is_out}
use Rattle.turn_lock.proofs.Allowed.{splits}
use Rattle.turn_lock.proofs.cell.TurnCell.split.Goals as goal

pub split_seat-requires : goal.split_seat-requires
split_seat-requires g c = (search rules, search rules, splits g.T.Logged.entries _ _ (is_out _ c.requires.2))
