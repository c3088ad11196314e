use Rattle.change_view.proofs.Views.{kept, made_from}
use Rattle.change_view.proofs.view.ChangeView.of_map.Goals as goal

pub invariant_of-result : goal.invariant_of-result
invariant_of-result c = kept _ _ (made_from _ c.args.map.now c.in_ok-list.ensures.same c.in_ok-list.ensures.texts)

pub returns : goal.returns
returns c = (made_from _ c.args.map.now c.in_ok-list.ensures.same c.in_ok-list.ensures.texts).value
