use Rattle.std.proofs.Common.{◌≡◌, ◌≤◌, ◌∙◌, arith}
use Rattle.shard_marks.proofs.Prefixes.{prefix_more}
use Rattle.session_link.proofs.sending.send_all.Goals as goal

pub loop-place-preserved : goal.loop-place-preserved
loop-place-preserved g c = record {
  went = λ t. c.in_ok-send_one.ensures.ok t ∙ c.loop-place.invariant.went t;
  before = λ t. prefix_more _ _ _ (c.loop-place.invariant.before t) (c.in_ok-send_one.ensures.more t);
  came = λ t. c.in_ok-send_one.ensures.received t ∙ c.loop-place.invariant.came t;
  polled = λ t. c.in_ok-send_one.ensures.polls t ∙ c.loop-place.invariant.polled t;
  closed = c.in_ok-send_one.ensures.closed ∙ c.loop-place.invariant.closed;
  faults = omega (arith, c.loop-place.invariant.faults, c.in_ok-send_one.ensures.later);
}
