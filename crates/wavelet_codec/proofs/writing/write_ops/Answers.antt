use Rattle.std.proofs.Common.{arith}
use Rattle.op_codec.proofs.Measures.{part_within}
use Rattle.wavelet_codec.specs.Spelling.{op_bytes, ops_bytes}
use Rattle.wavelet_codec.proofs.writing.write_ops.Goals as goal

pub write_op-requires-clause-short : goal.write_op-requires-clause-short
unfolding ops_bytes
write_op-requires-clause-short c =
    let part = part_within op_bytes c.args.ops.now c.loop-op.op-index c.op-item.result c.loop-op-test.true c.op-item.is in
    omega (arith, part, c.requires.short)
