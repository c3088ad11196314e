use Rattle.std.proofs.Common.{◌≡◌, ◌<◌, ℕ, true}
use Rattle.robot_host.specs.Tables.{robots_by}
use Rattle.robot_host.specs.Turns.{is_there, number_of}
use Rattle.robot_host.proofs.progress.Progress.is_settled.Given as goal

abbrev pub invariant-loop-robot : goal.invariant-loop-robot
invariant-loop-robot g l = (r : ℕ) → r < l.robot → is_there (robots_by (λ b. (goal.Robot-dyn g (b.vtable, b.value)).calls b.value) l.seats) r ≡ true → number_of l.self.counts.items r ≡ l.deltas
