use Rattle.std.proofs.Common.{drop}
use Rattle.client_control.proofs.Passing.{IsRebasing}
use Rattle.client_control.proofs.past.rebase.Given as goal

abbrev pub invariant-loop-entry : goal.invariant-loop-entry
invariant-loop-entry l = IsRebasing l.fn.entries l.fn.ops l.done.items l.left (drop l.entry-index l.fn.entries)
