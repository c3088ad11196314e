use Rattle.robot_host.specs.Hosts.{host_by}
use Rattle.hosted_copies.specs.Domains.{hosted_from}
use Rattle.shard_marks.specs.Marks.{replayed}
use Rattle.session_hub.specs.Entries.{entries_of}
use Rattle.session_hub.proofs.RobotTurns.{IsUnderway}
use Rattle.session_hub.proofs.shard.Shard.robot_turn.Given as goal

abbrev pub invariant-loop-place : goal.invariant-loop-place
invariant-loop-place g l =
    IsUnderway l.self.domain l.self.number (replayed l.self.domain l.self.number (entries_of l.self)) (hosted_from l.self.domain l.self.shelf l.place) (host_by (λ b. (goal.Robot-dyn g (b.vtable, b.value)).calls b.value) l.fn.host) (host_by (λ b. (goal.Robot-dyn g (b.vtable, b.value)).calls b.value) l.host)
