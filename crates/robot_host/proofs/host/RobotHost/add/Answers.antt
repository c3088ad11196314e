use Rattle.std.proofs.Common.{refl, sym, subst}
use Rattle.robot_host.specs.declared.seat.Seated.TheVariants.{Here}
use Rattle.robot_host.specs.Hosts.{AreFresh}
use Rattle.robot_host.proofs.Table.{robots_more, fresh_more}
use Rattle.robot_host.proofs.host.RobotHost.add.Goals as goal

pub returns-clause-robots : goal.returns-clause-robots
returns-clause-robots g c = robots_more (λ b. (goal.Robot-dyn g (b.vtable, b.value)).calls b.value) c.args.self.now.seats.items c.push.new.self.items (record { address = c.in_ok-address.address; first = c.of-first.result; robot = Here c.args.robot }) c.args.robot ((goal.Robot-dyn g (c.args.robot.vtable, c.args.robot.value)).named c.args.robot.value) c.in_ok-push.ensures.items c.in_ok-address.ensures c.of-first.ensures refl

pub returns-clause-new : goal.returns-clause-new
returns-clause-new g c =
    let more = robots_more (λ b. (goal.Robot-dyn g (b.vtable, b.value)).calls b.value) c.args.self.now.seats.items c.push.new.self.items (record { address = c.in_ok-address.address; first = c.of-first.result; robot = Here c.args.robot }) c.args.robot ((goal.Robot-dyn g (c.args.robot.vtable, c.args.robot.value)).named c.args.robot.value) c.in_ok-push.ensures.items c.in_ok-address.ensures c.of-first.ensures refl in
    record { fresh = subst AreFresh (sym more) (fresh_more _ _ _ c.requires.new.fresh); numbers = c.requires.new.numbers; edits = c.requires.new.edits }
