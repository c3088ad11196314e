use Rattle.std.proofs.Common.{Some, sym, subst}
use Rattle.wavelet_shelf.specs.Hosting.{deltas_in, copy_in, IsCopyOf}
use Rattle.wavelet_shelf.specs.Shelves.{hosted_of}
use Rattle.session_hub.proofs.Sounding.{sound_copy}
use Rattle.session_hub.proofs.judging.delta_at.Goals as goal

pub returns-in-Some-clause-sound : goal.returns-in-Some-clause-sound
returns-in-Some-clause-sound g c =
    let n = c.args.name.now in
    let hs = hosted_of c.args.shelf.now in
    let same = subst (λ o. IsCopyOf o (copy_in hs n)) (sym c.in-Some.ensures.value) (c.copies_are_hosted.ensures.copies n) in
    sound_copy n (deltas_in hs n) (Some c.in-Some.history.now) same c.deltas.ensures.legal
