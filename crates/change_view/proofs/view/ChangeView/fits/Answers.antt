use Rattle.std.proofs.Common.{ap, ◌∙◌}
use Rattle.doc_items.specs.Changes.{agrees}
use Rattle.change_view.proofs.Single.{fit_agrees}
use Rattle.change_view.proofs.Views.{viewed}
use Rattle.change_view.proofs.view.ChangeView.fits.Goals as goal

pub returns : goal.returns
returns c =
    let v = viewed _ _ _ c.self.invariant c.self.view_is c.as_slice.ensures.value in
    c.fits.ensures ∙ fit_agrees _ c.args.map.now v.rising ∙ ap (λ u. agrees u c.args.map.now) v.value
