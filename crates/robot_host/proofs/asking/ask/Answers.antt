use Rattle.robot_host.proofs.Reacting.{asked_is}
use Rattle.robot_host.proofs.asking.ask.Goals as goal

pub returns : goal.returns
returns g c = asked_is (λ b. (goal.Robot-dyn g (b.vtable, b.value)).calls b.value) c.args.seat.now c.in-Here.robot c.ask_robot.new.robot c.args.name.now c.args.delta.now c.args.state.now c.ask_robot.result c.in-Here.is c.ask_robot.ensures
