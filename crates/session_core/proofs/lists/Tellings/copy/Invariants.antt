use Rattle.std.proofs.Common.{◌≡◌, take}
use Rattle.session_core.proofs.lists.Tellings.copy.Given as goal

abbrev pub invariant-loop-telling : goal.invariant-loop-telling
invariant-loop-telling l = l.list.items ≡ take l.telling-index l.self
