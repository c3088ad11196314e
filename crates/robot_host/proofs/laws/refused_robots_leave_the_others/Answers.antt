use Rattle.robot_host.proofs.RoundSteps.{refused_may_turn}
use Rattle.robot_host.proofs.laws.refused_robots_leave_the_others.Goals as goal

pub returns : goal.returns
returns c = refused_may_turn
