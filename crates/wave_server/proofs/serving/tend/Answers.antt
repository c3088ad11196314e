use Rattle.robot_host.specs.Hosts.{host_by}
use Rattle.shard_marks.specs.Passes.{marks_of}
use Rattle.wave_server.proofs.Attending.{ready_later}
use Rattle.wave_server.proofs.Ending.{begins_on}
use Rattle.wave_server.proofs.serving.tend.Goals as goal

-- sessions are woken
pub returns-then-worked-clause-later : goal.returns-then-worked-clause-later
returns-then-worked-clause-later g c = begins_on c.args.passes.now c.attend.new.passes c.tell.new.passes c.attend.ensures.later c.tell.ensures.later

pub returns-then-worked-clause-ready : goal.returns-then-worked-clause-ready
returns-then-worked-clause-ready g c =
    ready_later c.args.hub.now.domain (marks_of c.attend.new.passes) (marks_of c.tell.new.passes) (host_by (λ b. (goal.Robot-dyn g (b.vtable, b.value)).calls b.value) c.attend.new.robots)
    c.tell.ensures.later c.in_ok-attend.ensures.ready
