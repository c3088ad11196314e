use Rattle.std.proofs.Common.{sym, ap, slice_get, ◌∙◌}
use Rattle.wavelet_shelf.proofs.Sharing.{all_hosted}
use Rattle.wavelet_shelf.proofs.containers.Containers.hosted.Goals as goal

pub returns-then-self : goal.returns-then-self
returns-then-self g c =
    let s = c.args.self.now in
    c.name_at.ensures ∙ ap (λ names. slice_get names c.args.place) (sym (all_hosted s.map.entries (s.all_begun c.if-self.true)))
