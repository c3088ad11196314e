use Rattle.std.proofs.Common.{arith}
use Rattle.op_codec.proofs.Measures.{take_more}
use Rattle.wavelet_codec.specs.Spelling.{op_bytes}
use Rattle.wavelet_codec.proofs.measure.normal_ops_len.Goals as goal

pub loop-op-preserved : goal.loop-op-preserved
loop-op-preserved c =
    let more = take_more op_bytes c.as_slice-list.result.now c.loop-op.op-index c.op-item.result c.loop-op-test.true c.op-item.is in
    omega (arith, more, c.plus-size.ensures, c.op_len.ensures, c.loop-op.invariant)
