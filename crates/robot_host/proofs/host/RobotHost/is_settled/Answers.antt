use Rattle.std.proofs.Common.{◌≡◌, true, length, map, Some, option_copied, sym, ap, subst, ◌∙◌}
use Rattle.robot_host.specs.Hosts.{progress_in}
use Rattle.robot_host.specs.Robots.{robot_by}
use Rattle.robot_host.specs.Turns.{is_there}
use Rattle.robot_host.proofs.Hosting.{settled_by}
use Rattle.robot_host.proofs.host.RobotHost.is_settled.Goals as goal

pub returns-in-Some : goal.returns-in-Some
returns-in-Some g c = λ yes.
    let is : progress_in c.args.self.now.wavelets c.args.history.now.name ≡ Some c.in-Some.progress.now = ap (progress_in c.args.self.now.wavelets) (sym c.name.ensures) ∙ sym c.get.ensures.value ∙ ap option_copied c.in-Some.is in
    settled_by _ c.args.self.now.wavelets c.args.history.now c.in-Some.progress.now is
    (λ r there. c.is_settled.ensures.through yes r (subst (λ z. is_there (map (robot_by (λ b. (goal.Robot-dyn g (b.vtable, b.value)).calls b.value)) z) r ≡ true) (sym c.deref.ensures.value) there) ∙ ap length c.deltas.ensures.value)
    (c.is_settled.ensures.none_kept yes)
