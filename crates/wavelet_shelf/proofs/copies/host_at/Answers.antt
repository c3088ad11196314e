use Rattle.std.proofs.Common.{◌≡◌, ◌==◌, false, ◌∷◌, length, rules}
use Rattle.wavelet_shelf.proofs.Sharing.{next_host}
use Rattle.wavelet_shelf.proofs.Shelving.{deltas_of}
use Rattle.wavelet_shelf.proofs.copies.host_at.Goals as goal

pub loop-name-preserved-else-left-eq0 : goal.loop-name-preserved-else-left-eq0
loop-name-preserved-else-left-eq0 g c =
    let l = c.loop-name in
    let parts : l.rest ≡ (c.in-Some.name.now, c.in-Some.filed.now) ∷ c.in-Some.more = search rules in
    let some : (length (deltas_of c.in-Some.filed.now) == 0) ≡ false = search rules in
    next_host c.in-Some.more l.rest c.in-Some.name.now c.in-Some.filed.now l.left parts some c.if-left-eq0.false l.invariant
