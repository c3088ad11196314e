use Rattle.robot_host.proofs.Table.{not_turned, there_at}
use Rattle.robot_host.proofs.progress.turn_robot.Goals as goal

pub returns-clause-turn : goal.returns-clause-turn
returns-clause-turn g c =
    let here = there_at c.args.seats.now c.args.robot c.requires.inside in
    not_turned (λ b. (goal.Robot-dyn g (b.vtable, b.value)).calls b.value) c.args.seats.now c.args.robot c.args.history.now c.args.progress.now.counts.items c.args.progress.now.edits.items here.0 here.1
