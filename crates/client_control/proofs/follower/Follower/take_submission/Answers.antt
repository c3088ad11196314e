use Rattle.std.proofs.Common.{◌≡◌, ◌+◌, ◌≤◌, List, ◌∷◌, drop, map, sym, subst, ap, ◌∙◌}
use Rattle.wavelet_op.specs.Acts.{inserted, meanings}
use Rattle.wavelet_op.specs.declared.op.WaveletOp.{WaveletOp}
use Rattle.wavelet_state.specs.Snapshots.{max_inserted}
use Rattle.follower_rules.specs.Followers.{inserted_all}
use Rattle.follower_rules.specs.Submitting.{sent_by}
use Rattle.client_control.specs.Parts.{Parts, parts, follower_of}
use Rattle.client_control.proofs.Kept.{none_if, drop_next, IsTaking, taking_room, taking_kept}
use Rattle.client_control.proofs.Matches.{some_of}
use Rattle.client_control.proofs.follower.Follower.take_submission.Goals as goal

pub inserted_both-self-inside-requires : goal.inserted_both-self-inside-requires
inserted_both-self-inside-requires c =
    let i = c.self.inside in
    let p : Parts = parts i.name i.author i.client i.at i.count i.state i.flight i.queue.items i.next in
    let first = c.in-Some.first.now in
    let rest = c.in-Some.rest.now in
    let joint = c.in-Some-2.joint in
    let queue : i.queue.items ≡ first ∷ rest = sym c.as_slice.ensures.value ∙ c.in-Some.ensures.cases.0 in
    let taking : IsTaking p first rest joint c.in_ok-sent.sent = record {
      none = none_if i.flight (sym c.is_some.ensures ∙ c.if-is_some.false);
      queue = queue;
      gathered = some_of _ _ c.in_ok-joint.field-0 joint c.in-Some-2.is c.in_ok-joint.ensures;
      next = c.if-self-gt-MAX_COUNT.false;
      is_sent = c.in_ok-sent.ensures ∙ ap (λ (z : Parts). sent_by (follower_of z) (meanings joint.ops)) (sym c.self.view_is);
    } in
    let tail = c.as_slice-2.ensures.value ∙ c.in_ok-queue.ensures.tail ∙ ap (drop (joint.entries + 1)) queue ∙ drop_next joint.entries first rest in
    subst (λ (z : List (List WaveletOp)). inserted (meanings joint.ops) + inserted_all (map meanings z) ≤ max_inserted) (sym tail) (taking_room p i.held i.shown first rest joint c.in_ok-sent.sent c.self.invariant taking)

pub invariant_of-self-2 : goal.invariant_of-self-2
invariant_of-self-2 c =
    let i = c.self.inside in
    let p : Parts = parts i.name i.author i.client i.at i.count i.state i.flight i.queue.items i.next in
    let first = c.in-Some.first.now in
    let rest = c.in-Some.rest.now in
    let joint = c.in-Some-2.joint in
    let queue : i.queue.items ≡ first ∷ rest = sym c.as_slice.ensures.value ∙ c.in-Some.ensures.cases.0 in
    let taking : IsTaking p first rest joint c.in_ok-sent.sent = record {
      none = none_if i.flight (sym c.is_some.ensures ∙ c.if-is_some.false);
      queue = queue;
      gathered = some_of _ _ c.in_ok-joint.field-0 joint c.in-Some-2.is c.in_ok-joint.ensures;
      next = c.if-self-gt-MAX_COUNT.false;
      is_sent = c.in_ok-sent.ensures ∙ ap (λ (z : Parts). sent_by (follower_of z) (meanings joint.ops)) (sym c.self.view_is);
    } in
    let tail = c.in_ok-queue.ensures.tail ∙ ap (drop (joint.entries + 1)) queue ∙ drop_next joint.entries first rest in
    let count = c.inserted_both-self-inside.ensures ∙ ap (λ (z : List (List WaveletOp)). inserted (meanings joint.ops) + inserted_all (map meanings z)) c.as_slice-2.ensures.value in
    taking_kept p i.held c.inserted_both-self-inside.result i.shown first rest c.in_ok-queue.queue.items joint c.in_ok-sent.sent c.self.invariant taking tail count
