use Rattle.std.proofs.Common.{◌≡◌, ◌≤◌, ◌-◌, length, take}
use Rattle.client_control.specs.Parts.{ops_pending}
use Rattle.client_session.proofs.taking.pending_of.Given as goal

abbrev pub invariant-loop-ops : goal.invariant-loop-ops
invariant-loop-ops l = l.entries.items ≡ take (length l.entries.items) (ops_pending l.follower)

abbrev pub decreases-loop-ops : goal.decreases-loop-ops
decreases-loop-ops l = length (ops_pending l.follower) - length l.entries.items
