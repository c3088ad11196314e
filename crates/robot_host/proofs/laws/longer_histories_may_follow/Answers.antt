use Rattle.robot_host.proofs.MayTurns.{longer_may_turn}
use Rattle.robot_host.proofs.laws.longer_histories_may_follow.Goals as goal

pub returns : goal.returns
returns c = longer_may_turn
