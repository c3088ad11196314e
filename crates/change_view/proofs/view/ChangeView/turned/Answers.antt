use Rattle.change_view.proofs.Views.{viewed, kept, made_turned}
use Rattle.change_view.proofs.view.ChangeView.turned.Goals as goal

pub invariant_of-result : goal.invariant_of-result
invariant_of-result c = kept _ _ (made_turned _ _ _ (viewed _ _ _ c.self.invariant c.self.view_is c.as_slice.ensures.value) c.in_ok-list.ensures)

pub returns : goal.returns
returns c = (made_turned _ _ _ (viewed _ _ _ c.self.invariant c.self.view_is c.as_slice.ensures.value) c.in_ok-list.ensures).value
