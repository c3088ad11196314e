use Rattle.std.proofs.Common.{◌≡◌, take}
use Rattle.session_link.proofs.client.copies.Given as goal

abbrev pub invariant-loop-domain : goal.invariant-loop-domain
invariant-loop-domain l = l.made.items ≡ take l.domain-index l.domains
