use Rattle.std.proofs.Common.{rules, ◌≡◌, ◌∙◌, ◌<◌, ◌+◌, ℕ, List, length, arith, add-one, refl, sym, ap, subst}
use Rattle.replica_store.specs.Listings.{IsSought}
use Rattle.replica_store.specs.declared.sought.Sought.{Sought}
use Rattle.shard_marks.specs.declared.mark.Mark.{Mark}
use Rattle.shard_marks.specs.Marks.{copied}
use Rattle.shard_marks.specs.Passes.{marks_of}
use Rattle.session_hub.specs.declared.seeking.Item.{Item}
use Rattle.session_hub.specs.Items.{across, items_of}
use Rattle.session_hub.proofs.Sought.{left_next, found_in, none_in, begins_self, begins_more, begins_turned, counts_turned, marks_turned}
use Rattle.session_hub.proofs.hub.Hub.seek.Goals as goal

pub loop-shard-init : goal.loop-shard-init
loop-shard-init g c = record {
  own = c.requires.own;
  later = λ k. begins_self (marks_of c.args.passes.now k);
  counts = λ k. (refl, refl);
  left = omega arith;
}

-- past a shard
pub loop-shard-preserved : goal.loop-shard-preserved
loop-shard-preserved over c =
    let d = c.args.self.now.domain in
    let e = c.args.domain.now in
    let w = c.args.wanted in
    let n = c.loop-shard.shard in
    let f = λ (k : ℕ). items_of w e (copied d k (marks_of c.loop-shard.passes k)) in
    let g = λ (k : ℕ). items_of w e (copied d k (marks_of c.seek_at.new.passes k)) in
    let same : (k : ℕ) → k < n → g k ≡ f k = λ k l. ap (λ (ms : List Mark). items_of w e (copied d k ms)) (marks_turned c.loop-shard.passes c.seek_at.new.passes n c.seek_at.ensures.turned k (λ is. absurd (omega (arith, l, is)))) in
    let here : IsSought (g n) c.loop-shard.left c.in_ok-item.field-0 = c.in_ok-item.ensures.sought in
    record {
      own = c.seek_at.ensures.own;
      later = λ k. begins_more _ _ _ (c.loop-shard.invariant.later k) (begins_turned c.loop-shard.passes c.seek_at.new.passes n c.seek_at.ensures.turned k);
      counts = λ k. let one = counts_turned c.loop-shard.passes c.seek_at.new.passes n c.seek_at.ensures.turned c.seek_at.ensures.unadded k in
          let before = c.loop-shard.invariant.counts k in (one.0 ∙ before.0, one.1 ∙ before.1);
      left = subst (λ (z : ℕ). c.args.place ≡ length (across z g) + c.in-Past.more) (sym (add-one n))
          (left_next n c.args.place c.loop-shard.left f g c.loop-shard.invariant.left same c.in-Past.more (subst (λ (s : Sought Item). IsSought (g n) c.loop-shard.left s) c.in-Past.is here));
    }

pub returns-in_err-item-clause-later : goal.returns-in_err-item-clause-later
returns-in_err-item-clause-later over c = λ k l. begins_more _ _ _ (c.loop-shard.invariant.later k) (begins_turned c.loop-shard.passes c.seek_at.new.passes c.loop-shard.shard c.seek_at.ensures.turned k)

pub returns-in-Found-clause-later : goal.returns-in-Found-clause-later
returns-in-Found-clause-later over c = λ k l. begins_more _ _ _ (c.loop-shard.invariant.later k) (begins_turned c.loop-shard.passes c.seek_at.new.passes c.loop-shard.shard c.seek_at.ensures.turned k)

pub returns-in-Found-clause-item : goal.returns-in-Found-clause-item
returns-in-Found-clause-item over c =
    let d = c.args.self.now.domain in
    let e = c.args.domain.now in
    let w = c.args.wanted in
    let n = c.loop-shard.shard in
    let f = λ (k : ℕ). items_of w e (copied d k (marks_of c.loop-shard.passes k)) in
    let g = λ (k : ℕ). items_of w e (copied d k (marks_of c.seek_at.new.passes k)) in
    let same : (k : ℕ) → k < n → g k ≡ f k = λ k l. ap (λ (ms : List Mark). items_of w e (copied d k ms)) (marks_turned c.loop-shard.passes c.seek_at.new.passes n c.seek_at.ensures.turned k (λ is. absurd (omega (arith, l, is)))) in
    let here : IsSought (g n) c.loop-shard.left c.in_ok-item.field-0 = c.in_ok-item.ensures.sought in
    sym (found_in n c.args.place c.loop-shard.left f g c.loop-shard.invariant.left same c.in-Found.item c.loop-shard-test.true (subst (λ (s : Sought Item). IsSought (g n) c.loop-shard.left s) c.in-Found.is here))

-- past the last shard
pub returns-clause-item : goal.returns-clause-item
returns-clause-item over c =
    let f = λ (k : ℕ). items_of c.args.wanted c.args.domain.now (copied c.args.self.now.domain k (marks_of c.loop-shard.passes k)) in
    let done : c.loop-shard.shard ≡ 16 = search rules in
    let all : c.args.place ≡ length (across 16 f) + c.loop-shard.left = subst (λ (n : ℕ). c.args.place ≡ length (across n f) + c.loop-shard.left) done c.loop-shard.invariant.left in
    sym (none_in (across 16 f) c.args.place c.loop-shard.left all)
