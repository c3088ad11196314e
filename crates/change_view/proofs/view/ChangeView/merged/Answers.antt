use Rattle.change_view.proofs.Views.{viewed, kept, made_joined}
use Rattle.change_view.proofs.view.ChangeView.merged.Goals as goal

pub invariant_of-result : goal.invariant_of-result
invariant_of-result c = kept _ _ (made_joined c.args.rule _ _ _ _ _ (viewed _ _ _ c.self.invariant c.self.view_is c.as_slice.ensures.value) (viewed _ _ _ c.other.invariant c.other.view_is c.as_slice-2.ensures.value) c.in_ok-list.ensures)

pub returns : goal.returns
returns c = (made_joined c.args.rule _ _ _ _ _ (viewed _ _ _ c.self.invariant c.self.view_is c.as_slice.ensures.value) (viewed _ _ _ c.other.invariant c.other.view_is c.as_slice-2.ensures.value) c.in_ok-list.ensures).value
