use Rattle.std.proofs.Common.{rules, refl}
use Rattle.turn_lock.proofs.Allowed.{passes_on}
use Rattle.turn_lock.proofs.cell.TurnCell.pass_on.Goals as goal

pub store-requires : goal.store-requires
store-requires g c = (search rules, search rules, passes_on g.T.Logged.entries _ _ _ _ _ c.requires.0.2 refl)
