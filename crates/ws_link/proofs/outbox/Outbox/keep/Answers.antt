use Rattle.std.proofs.Common.{rules}
use Rattle.ws_link.proofs.Costs.{waiting_more}
use Rattle.ws_link.proofs.outbox.Outbox.keep.Goals as goal

pub invariant_of-self-2-clause-counted : goal.invariant_of-self-2-clause-counted
invariant_of-self-2-clause-counted c = search (rules, waiting_more)
