use Rattle.std.proofs.Common.{◌≡◌, ◌+◌, ◌≤◌, ℕ, List, [], ◌∷◌, ◌++◌, Some, refl, sym, subst, ap, ◌∙◌, arith}
use Rattle.wavelet_op.specs.Acts.{inserted, meanings}
use Rattle.wavelet_op.specs.declared.op.WaveletOp.{WaveletOp}
use Rattle.wavelet_state.specs.Snapshots.{max_inserted}
use Rattle.follower_rules.specs.Followers.{screen}
use Rattle.client_control.specs.Parts.{Parts, parts, follower_of, IsKept}
use Rattle.client_control.proofs.Kept.{few, longer_parts, edit_kept}
use Rattle.client_control.proofs.follower.Follower.edit_within.Goals as goal

pub invariant_of-self : goal.invariant_of-self
invariant_of-self c =
    let i = c.self.inside in
    let p : Parts = parts i.name i.author i.client i.at i.count i.state i.flight i.queue.items i.next in
    let ops = c.in_ok-ops.ops in
    let at = ap (λ (z : Parts). screen (follower_of z)) (c.self.view_is ∙ c.in_ok-shown.ensures.same) ∙ c.in_ok-shown.ensures.value in
    let room = few _ _ c.in-Ok.ensures.ok.1 in
    let more : c.inserted-more.result ≡ inserted (meanings ops) = c.inserted-more.ensures.value in
    let held : i.held + inserted (meanings ops) ≤ max_inserted = omega (arith, room, more) in
    let short = sym c.in_ok-short.ensures ∙ c.in-Ok.ensures.ok.2 in
    let queue = c.in-Ok-push.ensures.items ∙ ap (λ (z : List (List WaveletOp)). z ++ ops ∷ []) c.in-Ok.ensures.items in
    let kept = edit_kept p i.held i.shown c.in_ok-shown.shown c.tried_with_room.new.shown ops (meanings ops) c.self.invariant c.in_ok-ops.ensures.normal refl at c.in-Ok.ensures.ok.0 held short in
    subst (λ (z : List (List WaveletOp)). IsKept (parts i.name i.author i.client i.at i.count i.state i.flight z i.next) (i.held + c.inserted-more.result) (Some c.tried_with_room.new.shown)) (sym queue)
    (subst (λ (n : ℕ). IsKept (longer_parts p ops) (i.held + n) (Some c.tried_with_room.new.shown)) (sym more) kept)
