use Rattle.std.proofs.Common.{◌≡◌, ◌<◌, ℕ, false}
use Rattle.robot_host.specs.Tables.{robots_by}
use Rattle.robot_host.specs.Turns.{is_there}
use Rattle.robot_host.proofs.progress.are_gone.Given as goal

abbrev pub invariant-loop-robot : goal.invariant-loop-robot
invariant-loop-robot g l = (r : ℕ) → r < l.robot → is_there (robots_by (λ b. (goal.Robot-dyn g (b.vtable, b.value)).calls b.value) l.seats) r ≡ false
