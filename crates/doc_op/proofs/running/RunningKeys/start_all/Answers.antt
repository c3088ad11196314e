use Rattle.std.proofs.Common.{true, sym, subst}
use Rattle.std.specs.Str.{encode_utf8_all}
use Rattle.doc_items.specs.Changes.{key_change}
use Rattle.doc_items.specs.declared.change.Change.{Change}
use Rattle.doc_op.specs.Running.{IsThere, IsSwitched, Follows}
use Rattle.doc_op.proofs.Switches.{follows-started, kept-switched}
use Rattle.doc_items.proofs.ChangeSets.{with_changes_next}
use Rattle.doc_op.proofs.running.RunningKeys.start_all.Goals as goal

pub loop-change-preserved : goal.loop-change-preserved
loop-change-preserved c =
    let s = subst (λ k. IsSwitched c.loop-change.self k true c.switch.new.self) c.as_str.ensures.bytes c.switch.ensures in
    let t = c.loop-change.invariant.1 _ (subst (λ (d : Change). IsThere c.args.self.now (encode_utf8_all d.key)) (sym c.change-item.is) (c.requires c.loop-change.change-index c.loop-change-test.true c.change-item.result)) in (
      λ u h. subst (λ w. Follows w c.switch.new.self) (sym (with_changes_next u c.args.changes.now c.loop-change.change-index c.change-item.result c.loop-change-test.true c.change-item.is)) (follows-started _ _ _ _ (key_change c.change-item.result) t s (c.loop-change.invariant.0 u h)),
      λ q h. kept-switched _ _ _ _ s q (c.loop-change.invariant.1 q h),
    )
