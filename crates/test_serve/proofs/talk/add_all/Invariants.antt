use Rattle.robot_host.specs.Hosts.{IsNew, host_by}
use Rattle.test_serve.proofs.talk.add_all.Given as goal

abbrev pub invariant-loop-robot : goal.invariant-loop-robot
invariant-loop-robot g l = IsNew (host_by (λ b. (goal.Robot-dyn g (b.vtable, b.value)).calls b.value) l.robots)
