use Rattle.robot_host.specs.Hosts.{host_by}
use Rattle.turn_cells.specs.Cells.{Begins}
use Rattle.shard_marks.specs.Passes.{marks_of}
use Rattle.session_hub.specs.Hubs.{AreOfHub}
use Rattle.wave_server.specs.Robots.{AreReady, AreSettledBelow}
use Rattle.wave_server.proofs.robots.settle_all.Given as goal

abbrev pub invariant-loop-shard : goal.invariant-loop-shard
invariant-loop-shard g l =
    AreOfHub l.hub l.passes
    × Begins l.fn.passes l.passes
    × AreReady l.hub.domain (marks_of l.passes) (host_by (λ b. (goal.Robot-dyn g (b.vtable, b.value)).calls b.value) l.robots)
    × AreSettledBelow l.shard l.hub.domain (marks_of l.passes) (host_by (λ b. (goal.Robot-dyn g (b.vtable, b.value)).calls b.value) l.robots)
