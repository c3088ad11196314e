use Rattle.std.proofs.Common.{List, sym, subst, ap, ◌∙◌}
use Rattle.wavelet_op.specs.Acts.{meanings}
use Rattle.wavelet_op.specs.Passing.{IsGridded}
use Rattle.wavelet_op.specs.Results.{IsOpsPair}
use Rattle.wavelet_op.specs.declared.op.WaveletOp.{WaveletOp}
use Rattle.wavelet_op.proofs.Griddings.{lists_pair}
use Rattle.wavelet_op.proofs.transform.transform_delta.Goals as goal

pub returns-clause-ok : goal.returns-clause-ok
returns-clause-ok c =
    let done = subst (λ (z : List WaveletOp). IsGridded z c.in_ok-passed.passed.items c.in_ok-done.done.items c.in_ok-done.passed.items) c.as_slice-2.ensures.value c.in_ok-done.ensures in
    let pair = lists_pair c.args.later.now c.args.earlier.now c.in_ok-done.done.items c.in_ok-passed-2.passed.items c.in_ok-passed.passed.items c.in_ok-done.passed.items (c.in_ok-passed.ensures.acts ∙ ap meanings c.as_slice.ensures.value) done c.in_ok-passed-2.ensures.same c.in_ok-passed-2.ensures.normal c.requires.later c.requires.earlier in
    subst (λ (z : List WaveletOp). IsOpsPair c.args.later.now c.args.earlier.now (record { later = z; earlier = c.of-earlier.result })) (sym c.of-later.ensures)
    (subst (λ (z : List WaveletOp). IsOpsPair c.args.later.now c.args.earlier.now (record { later = c.in_ok-done.done.items; earlier = z })) (sym c.of-earlier.ensures) pair)
