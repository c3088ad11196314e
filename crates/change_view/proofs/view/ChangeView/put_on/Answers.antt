use Rattle.std.proofs.Common.{◌∙◌}
use Rattle.doc_items.specs.Changes.{put}
use Rattle.change_view.proofs.Single.{put_merge}
use Rattle.change_view.proofs.Views.{viewed}
use Rattle.change_view.proofs.view.ChangeView.put_on.Goals as goal

pub returns : goal.returns
returns c =
    let v = viewed _ _ _ c.self.invariant c.self.view_is c.as_slice.ensures.value in
    c.in_ok-put.ensures ∙ put_merge _ _ v.rising ∙ (λ i. put (v.value i) (c.in_ok-copy.ensures i))
