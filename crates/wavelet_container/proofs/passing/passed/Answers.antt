use Rattle.std.proofs.Common.{sym, ap, subst, List}
use Rattle.wavelet_op.specs.Acts.{meanings}
use Rattle.wavelet_op.specs.Deltas.{DeltaOf}
use Rattle.wavelet_op.specs.declared.op.WaveletOp.{WaveletOp}
use Rattle.wavelet_container.specs.Passing.{CanCross, IsPast}
use Rattle.wavelet_container.proofs.Ways.{can_cross, not_none, rest_can}
use Rattle.wavelet_container.proofs.passing.passed.Goals as goal

pub past-requires : goal.past-requires
past-requires c =
    let can = not_none (meanings c.args.ops.now) c.args.since.now c.in-Some.rest.now c.in-Some.first.now c.requires c.in-Some.ensures.cases.0 in
    subst (λ (o : List WaveletOp). CanCross (meanings c.args.ops.now) (meanings o)) (sym (ap (λ (d : DeltaOf). d.ops) c.first.view_is)) (can_cross (meanings c.args.ops.now) c.in-Some.first.now c.in-Some.rest.now can)

pub pass_rest-requires-clause-can : goal.pass_rest-requires-clause-can
pass_rest-requires-clause-can c =
    let can = not_none (meanings c.args.ops.now) c.args.since.now c.in-Some.rest.now c.in-Some.first.now c.requires c.in-Some.ensures.cases.0 in
    let past = subst (λ (o : List WaveletOp). IsPast c.args.ops.now o c.in_ok-passed-in-Some.passed) (ap (λ (d : DeltaOf). d.ops) c.first.view_is) c.in_ok-passed-in-Some.ensures in
    rest_can c.args.ops.now c.in_ok-passed-in-Some.passed c.in-Some.first.now c.in-Some.rest.now can past
