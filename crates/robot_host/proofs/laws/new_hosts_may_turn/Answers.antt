use Rattle.robot_host.proofs.MayTurns.{new_may_turn}
use Rattle.robot_host.proofs.laws.new_hosts_may_turn.Goals as goal

pub returns : goal.returns
returns c = new_may_turn
