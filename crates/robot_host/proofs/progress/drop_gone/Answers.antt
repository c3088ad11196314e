use Rattle.std.proofs.Common.{rules, map}
use Rattle.robot_host.specs.Robots.{robot_by}
use Rattle.robot_host.specs.Turns.{is_of_there}
use Rattle.robot_host.proofs.Table.{kept_of}
use Rattle.robot_host.proofs.progress.drop_gone.Goals as goal

pub returns : goal.returns
returns g c = kept_of c.retain.ensures.filtered (is_of_there (map (robot_by (λ b. (goal.Robot-dyn g (b.vtable, b.value)).calls b.value)) c.args.seats.now)) (λ x b f r. search rules)
