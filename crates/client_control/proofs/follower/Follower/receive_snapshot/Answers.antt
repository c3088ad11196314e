use Rattle.std.proofs.Common.{◌≤◌, sym, subst, ap, ◌∙◌}
use Rattle.wavelet_op.specs.States.{State}
use Rattle.wavelet_state.specs.Parts.{item_count}
use Rattle.follower_rules.specs.Followers.{pending}
use Rattle.client_control.specs.Parts.{Parts, parts, follower_of, settled}
use Rattle.client_control.proofs.Kept.{snapshot_kept}
use Rattle.client_control.proofs.follower.Follower.receive_snapshot.Goals as goal

pub invariant_of-self : goal.invariant_of-self
invariant_of-self c =
    let i = c.self.inside in
    let p : Parts = parts i.name i.author i.client i.at i.count i.state i.flight i.queue.items i.next in
    let none = ap (λ (z : Parts). settled (pending (follower_of z))) c.self.view_is ∙ sym c.is_settled.ensures ∙ c.if-not-is_settled.false in
    let items = subst (λ (z : State). item_count z.documents ≤ c.inserted-self-inside.result) (sym c.into_state.ensures) c.inserted-self-inside.ensures.items in
    snapshot_kept p i.held i.shown c.at-at.result c.inserted-self-inside.result c.into_state.result c.self.invariant none c.inserted-self-inside.ensures.bound items
