use Rattle.std.proofs.Common.{List, rules, sym, subst, true≢false}
use Rattle.wavelet_op.specs.Acts.{meanings, AreStructuredActs}
use Rattle.wavelet_op.specs.declared.op.WaveletOp.{WaveletOp}
use Rattle.wavelet_op.proofs.Griddings.{structured_first, structured_more, structured_none}
use Rattle.wavelet_op.proofs.Partial.{both}
use Rattle.wavelet_op.proofs.ops.Ops.is_structured.Goals as goal

pub returns-then-not-is_structured : goal.returns-then-not-is_structured
returns-then-not-is_structured c = (
  λ t. absurd (true≢false (sym t)),
  λ s. absurd (both (c.is_structured.ensures.1 (structured_first c.as_slice-op-items.result.now c.loop-op.op-index c.op-item.result c.loop-op-test.true c.op-item.is (c.loop-op.invariant.on (subst (λ (z : List WaveletOp). AreStructuredActs (meanings z)) (sym c.as_slice-op-items.ensures.value) s))).0) c.if-not-is_structured.true),
)

pub loop-op-preserved : goal.loop-op-preserved
loop-op-preserved c =
    let xs : List WaveletOp = c.as_slice-op-items.result.now in
    record {
      back = λ s. c.loop-op.invariant.back (structured_more xs c.loop-op.op-index c.op-item.result c.loop-op-test.true c.op-item.is (c.is_structured.ensures.0 c.if-not-is_structured.false) s);
      on = λ s. (structured_first xs c.loop-op.op-index c.op-item.result c.loop-op-test.true c.op-item.is (c.loop-op.invariant.on s)).1;
    }

pub returns : goal.returns
returns c =
    let all = c.loop-op.invariant.back (structured_none c.as_slice-op-items.result.now c.loop-op.op-index c.loop-op-test.false) in
    (λ t. subst (λ (z : List WaveletOp). AreStructuredActs (meanings z)) c.as_slice-op-items.ensures.value all, λ s. search rules)
