use Rattle.wavelet_op.proofs.Griddings.{gridding_here, gridding_asks, gridding_next}
use Rattle.wavelet_op.proofs.transform.pass_all.Goals as goal

pub pass-requires-clause-later_structured : goal.pass-requires-clause-later_structured
pass-requires-clause-later_structured c =
    gridding_asks _ _ _ _ _ _ _ _ (gridding_here _ _ _ c.loop-index.index c.args.later.now c.loop-index.done.items c.loop-index.passed.items c.index-later-index.result c.loop-index.invariant c.loop-index-test.true c.index-later-index.is)

pub loop-index-preserved : goal.loop-index-preserved
loop-index-preserved c =
    gridding_next _ _ _ c.loop-index.index c.args.later.now c.loop-index.done.items c.put.new.list.items c.loop-index.passed.items c.in_ok-mine.theirs.items _ c.in_ok-mine.mine c.in_ok-mine-2.mine
    (gridding_here _ _ _ c.loop-index.index c.args.later.now c.loop-index.done.items c.loop-index.passed.items c.index-later-index.result c.loop-index.invariant c.loop-index-test.true c.index-later-index.is)
    c.in_ok-mine.ensures c.in_ok-mine-2.ensures.same c.in_ok-mine-2.ensures.normal c.in_ok-put.ensures
