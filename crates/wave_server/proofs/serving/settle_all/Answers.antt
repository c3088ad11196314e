use Rattle.robot_host.specs.Hosts.{host_by}
use Rattle.shard_marks.specs.Passes.{marks_of}
use Rattle.wave_server.proofs.Attending.{were_served}
use Rattle.wave_server.proofs.Ending.{ok_both}
use Rattle.wave_server.proofs.serving.settle_all.Goals as goal

pub returns-clause-robots : goal.returns-clause-robots
returns-clause-robots g c =
    ok_both c.settle.result
    (were_served c.args.hub.now.domain (marks_of c.settle.new.passes) (host_by (λ b. (goal.Robot-dyn g (b.vtable, b.value)).calls b.value) c.settle.new.robots))
    c.settle.ensures.ready c.settle.ensures.settled
