use Rattle.std.proofs.Common.{◌≡◌, take}
use Rattle.client_control.proofs.past.copy_queue.Given as goal

abbrev pub invariant-loop-ops : goal.invariant-loop-ops
invariant-loop-ops l = l.copies.items ≡ take l.ops-index l.queue
