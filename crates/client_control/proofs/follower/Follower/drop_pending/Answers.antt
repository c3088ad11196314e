use Rattle.std.proofs.Common.{Option, None, cond, sym, ap, ◌∙◌}
use Rattle.wavelet_op.specs.States.{State}
use Rattle.follower_rules.specs.Followers.{pending}
use Rattle.client_control.specs.Parts.{Parts, parts, follower_of, settled}
use Rattle.client_control.proofs.Kept.{dropped_kept}
use Rattle.client_control.proofs.follower.Follower.drop_pending.Goals as goal

pub invariant_of-self : goal.invariant_of-self
invariant_of-self c =
    let i = c.self.inside in
    let p : Parts = parts i.name i.author i.client i.at i.count i.state i.flight i.queue.items i.next in
    let keep = c.is_settled-keep.ensures ∙ ap (λ (z : Parts). settled (pending (follower_of z))) (sym c.self.view_is) in
    let shown = c.kept_if.ensures ∙ ap (λ (z : Option State). cond c.is_settled-keep.result z None) c.take.ensures.value in
    dropped_kept p i.held i.shown c.kept_if.result c.clear.new.self.items c.is_settled-keep.result c.self.invariant keep shown c.clear.ensures.items
