use Rattle.std.proofs.Common.{◌+◌, drop, sym, ap, subst, List}
use Rattle.wavelet_op.specs.Acts.{meanings}
use Rattle.wavelet_op.specs.Deltas.{DeltaOf}
use Rattle.wavelet_op.specs.declared.op.WaveletOp.{WaveletOp}
use Rattle.wavelet_container.specs.Passing.{CanCross, CanPass, IsPast, Passes}
use Rattle.wavelet_container.proofs.Ways.{at_delta, can_cross, rest_can, past_first}
use Rattle.wavelet_container.proofs.passing.pass_rest.Goals as goal

pub past-requires : goal.past-requires
past-requires c =
    let at = at_delta c.args.since.now c.loop-delta.delta-index c.delta-item.result c.loop-delta-test.true c.delta-item.is in
    let can = subst (CanPass (meanings c.loop-delta.passed)) at c.loop-delta.invariant.can in
    subst (λ (o : List WaveletOp). CanCross (meanings c.loop-delta.passed) (meanings o)) (sym (ap (λ (d : DeltaOf). d.ops) c.delta.view_is)) (can_cross (meanings c.loop-delta.passed) c.delta-item.result (drop (c.loop-delta.delta-index + 1) c.args.since.now) can)

pub loop-delta-preserved : goal.loop-delta-preserved
loop-delta-preserved c =
    let at = at_delta c.args.since.now c.loop-delta.delta-index c.delta-item.result c.loop-delta-test.true c.delta-item.is in
    let can = subst (CanPass (meanings c.loop-delta.passed)) at c.loop-delta.invariant.can in
    let rest = drop (c.loop-delta.delta-index + 1) c.args.since.now in
    let past = subst (λ (o : List WaveletOp). IsPast c.loop-delta.passed o c.in_ok-passed.passed) (ap (λ (d : DeltaOf). d.ops) c.delta.view_is) c.in_ok-passed.ensures in
    record {
      can = rest_can c.loop-delta.passed c.in_ok-passed.passed c.delta-item.result rest can past;
      normal = past.normal;
      rest = λ os r. c.loop-delta.invariant.rest os (subst (λ (ds : List DeltaOf). Passes (meanings c.loop-delta.passed) ds os) (sym at) (past_first c.loop-delta.passed c.in_ok-passed.passed os c.delta-item.result rest past r));
    }
