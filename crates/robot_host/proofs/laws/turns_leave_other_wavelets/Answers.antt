use Rattle.robot_host.proofs.MayTurns.{others_may_turn}
use Rattle.robot_host.proofs.laws.turns_leave_other_wavelets.Goals as goal

pub returns : goal.returns
returns c = others_may_turn
