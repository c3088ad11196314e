use Rattle.std.proofs.Common.{ap, ◌∙◌, map}
use Rattle.change_view.specs.Lists.{of_change}
use Rattle.change_view.proofs.Views.{kept, made_of}
use Rattle.change_view.proofs.view.ChangeView.of.Goals as goal

pub invariant_of-result : goal.invariant_of-result
invariant_of-result c = kept _ _ (made_of _ c.args.changes.now c.requires (c.in_ok-list.ensures.same ∙ ap (map of_change) c.as_slice.ensures) c.in_ok-list.ensures.texts)

pub returns : goal.returns
returns c = (made_of _ c.args.changes.now c.requires (c.in_ok-list.ensures.same ∙ ap (map of_change) c.as_slice.ensures) c.in_ok-list.ensures.texts).value
