use Rattle.std.proofs.Common.{rules, ◌≡◌, subst}
use Rattle.std.specs.Arc.{arc_value}
use Rattle.robot_host.specs.Hosts.{host_by}
use Rattle.shard_marks.specs.Passes.{marks_of}
use Rattle.session_hub.specs.Hubs.{AreOfHub}
use Rattle.wave_server.proofs.Attending.{ready_later}
use Rattle.wave_server.proofs.Ending.{begins_on, same_begins}
use Rattle.wave_server.proofs.serving.serve_all.Goals as goal

pub go_on-requires-clause-own : goal.go_on-requires-clause-own
go_on-requires-clause-own g c =
    let hub : c.deref.result.now ≡ arc_value c.args.hub.now = search (rules, c.deref.ensures) in
    subst (λ h. AreOfHub h c.split.new.passes) hub c.split.ensures.old.0

pub go_on-requires-clause-ready : goal.go_on-requires-clause-ready
go_on-requires-clause-ready g c =
    ready_later (arc_value c.args.hub.now).domain (marks_of c.args.passes.now) (marks_of c.split.new.passes) (host_by (λ b. (goal.Robot-dyn g (b.vtable, b.value)).calls b.value) c.args.robots.now)
    (same_begins c.args.passes.now c.split.new.passes c.split.ensures.old.1) c.requires.ready

pub returns : goal.returns
returns g c =
    let done = c.go_on.ensures in
    record {
      own = done.own;
      later = begins_on c.args.passes.now c.split.new.passes c.go_on.new.passes (same_begins c.args.passes.now c.split.new.passes c.split.ensures.old.1) done.later;
      robots = done.robots;
      all = done.all;
      accepted = done.accepted;
      spent = done.spent;
      refused = done.refused;
      door = done.door;
      served = done.served;
      met = done.met;
      dialled = done.dialled;
      named = done.named;
      held = done.held;
    }
