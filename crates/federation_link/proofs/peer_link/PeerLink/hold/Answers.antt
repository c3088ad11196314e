use Rattle.std.proofs.Common.{refl}
use Rattle.std.proofs.lemmas.Grind.{merely}
use Rattle.federation_link.proofs.peer_link.PeerLink.hold.Goals as goal

pub invariant_of-self : goal.invariant_of-self
invariant_of-self g c = record { linked = refl; sent = merely c.requires.sent }
