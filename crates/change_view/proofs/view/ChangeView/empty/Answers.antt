use Rattle.change_view.proofs.Views.{kept, made_nothing}
use Rattle.change_view.proofs.view.ChangeView.empty.Goals as goal

pub invariant_of-result : goal.invariant_of-result
invariant_of-result c = kept _ _ (made_nothing _ c.new.ensures.items)

pub returns : goal.returns
returns c = (made_nothing _ c.new.ensures.items).value
