use Rattle.std.proofs.Common.{false, sym, subst}
use Rattle.doc_op.specs.Running.{IsSwitched, Follows}
use Rattle.doc_op.proofs.Switches.{follows-stopped, kept-switched}
use Rattle.doc_items.proofs.ChangeSets.{without_next}
use Rattle.doc_op.proofs.running.RunningKeys.stop_all.Goals as goal

pub loop-key-preserved : goal.loop-key-preserved
loop-key-preserved c =
    let s = subst (λ k. IsSwitched c.loop-key.self k false c.switch.new.self) c.as_str.ensures.bytes c.switch.ensures in (
      λ u h. subst (λ w. Follows w c.switch.new.self) (sym (without_next u c.args.ends.now c.loop-key.key-index c.key-item.result c.loop-key-test.true c.key-item.is)) (follows-stopped _ _ _ _ s (c.loop-key.invariant.0 u h)),
      λ q h. kept-switched _ _ _ _ s q (c.loop-key.invariant.1 q h),
    )
