use Rattle.std.proofs.Common.{◌∙◌}
use Rattle.change_view.specs.Rules.{passing}
use Rattle.change_view.specs.Sets.{passes}
use Rattle.change_view.proofs.Pairs.{pass_matches}
use Rattle.change_view.proofs.Sets.{test_none}
use Rattle.change_view.proofs.Views.{viewed}
use Rattle.change_view.proofs.view.ChangeView.passes.Goals as goal

pub returns : goal.returns
returns c =
    let v = viewed _ _ _ c.self.invariant c.self.view_is c.as_slice.ensures.value in
    let w = viewed _ _ _ c.other.invariant c.other.view_is c.as_slice-2.ensures.value in
    c.passes.ensures ∙ pass_matches (passing c.args.test) _ _ (test_none c.args.test) v.rising w.rising ∙ (λ i. passes c.args.test (v.value i) (w.value i))
