use Rattle.std.proofs.Common.{List, drop}
use Rattle.wavelet_op.specs.Acts.{meanings, AreNormal}
use Rattle.wavelet_op.specs.declared.op.WaveletOp.{WaveletOp}
use Rattle.wavelet_container.specs.Passing.{CanPass, Passes}
use Rattle.wavelet_container.proofs.passing.pass_rest.Given as goal

abbrev pub invariant-loop-delta : goal.invariant-loop-delta
invariant-loop-delta l = record {
  can : CanPass (meanings l.passed) (drop l.delta-index l.fn.since);
  normal : AreNormal l.passed;
  rest : (os : List WaveletOp) → Passes (meanings l.passed) (drop l.delta-index l.fn.since) os → Passes (meanings l.fn.ops) l.fn.since os;
}
