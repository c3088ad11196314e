use Rattle.std.proofs.Common.{rules, ap, ◌∙◌, is_eq, cond, Some, None}
use Rattle.std.specs.Ordering.{nat_cmp}
use Rattle.std.specs.Cmp.Lexicographic.{slice_cmp}
use Rattle.robot_host.specs.Hosts.{progress_in}
use Rattle.robot_host.specs.Turns.{number_of}
use Rattle.delta_history.proofs.Indexes.{no_some}
use Rattle.robot_host.proofs.Hosting.{same_put}
use Rattle.robot_host.proofs.host.RobotHost.begin.Goals as goal

pub returns-clause-same : goal.returns-clause-same
returns-clause-same g c =
    same_put c.args.self.now.wavelets c.insert.new.self c.args.name.now None c.new.result (no_some _ (search rules))
    (λ q. c.in_ok-_none.ensures.updates.0 q ∙ ap (λ z. cond (is_eq (slice_cmp nat_cmp z q)) (Some c.new.result) (progress_in c.args.self.now.wavelets q)) c.in_ok-name.ensures)
    (λ r. ap (λ z. number_of z r) c.new.ensures.counts) c.new.ensures.edits
