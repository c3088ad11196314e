use Rattle.std.proofs.Common.{◌≡◌, drop}
use Rattle.session_core.specs.Deliveries.{telling_of}
use Rattle.session_core.proofs.lists.Tellings.get.Given as goal

abbrev pub invariant-loop-telling : goal.invariant-loop-telling
invariant-loop-telling l = telling_of l.name l.self ≡ telling_of l.name (drop l.telling-index l.self)
