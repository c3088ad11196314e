use Rattle.std.proofs.Common.{rules, get_or, ◌≡◌, ◌<◌, ap, ◌∙◌, map, true, false, length}
use Rattle.std.proofs.lemmas.Option.{slice_get-get_or}
use Rattle.robot_host.specs.Robots.{robot_by}
use Rattle.robot_host.specs.Showing.{dropped}
use Rattle.robot_host.specs.Turns.{is_there}
use Rattle.robot_host.proofs.Hosting.{without_robot, without_gone, inside_there, one_robot, one_dropped}
use Rattle.robot_host.proofs.host.RobotHost.retire.Goals as goal

pub returns-then-not-is_there-clause-without : goal.returns-then-not-is_there-clause-without
returns-then-not-is_there-clause-without g c =
    let gone : is_there (map (robot_by (λ b. (goal.Robot-dyn g (b.vtable, b.value)).calls b.value)) c.args.self.now.seats.items) c.args.robot ≡ false = search rules in
    without_gone _ _ _ _ gone

pub index_mut-requires : goal.index_mut-requires
index_mut-requires g c =
    let there : is_there (map (robot_by (λ b. (goal.Robot-dyn g (b.vtable, b.value)).calls b.value)) c.args.self.now.seats.items) c.args.robot ≡ true = search rules in
    let inside : c.args.robot < length c.args.self.now.seats.items = inside_there (λ b. (goal.Robot-dyn g (b.vtable, b.value)).calls b.value) c.args.self.now.seats.items c.args.robot there in
    search (rules, inside)

pub returns-clause-without : goal.returns-clause-without
returns-clause-without g c =
    let there : is_there (map (robot_by (λ b. (goal.Robot-dyn g (b.vtable, b.value)).calls b.value)) c.args.self.now.seats.items) c.args.robot ≡ true = search rules in
    let inside : c.args.robot < length c.args.self.now.seats.items = inside_there (λ b. (goal.Robot-dyn g (b.vtable, b.value)).calls b.value) c.args.self.now.seats.items c.args.robot there in
    without_robot _ _ _ _ _ _ (one_robot (λ b. (goal.Robot-dyn g (b.vtable, b.value)).calls b.value) c.args.self.now.seats.items c.args.robot _ (slice_get-get_or c.args.self.now.seats.items c.args.robot c.index_mut.result.now inside)) (one_dropped (λ b. (goal.Robot-dyn g (b.vtable, b.value)).calls b.value) c.args.self.now.seats.items c.args.robot (get_or c.args.self.now.seats.items c.args.robot c.index_mut.result.now) c.leave.new.self (c.leave.ensures ∙ ap (λ z. dropped (robot_by (λ b. (goal.Robot-dyn g (b.vtable, b.value)).calls b.value) z)) c.index_mut.ensures.value))
