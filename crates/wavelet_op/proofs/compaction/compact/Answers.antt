use Rattle.std.proofs.Common.{List, sym, subst}
use Rattle.wavelet_op.specs.Results.{IsCompaction}
use Rattle.wavelet_op.specs.declared.op.WaveletOp.{WaveletOp}
use Rattle.wavelet_op.proofs.Joinings.{compacting_end}
use Rattle.wavelet_op.proofs.compaction.compact.Goals as goal

pub returns-clause-ok : goal.returns-clause-ok
returns-clause-ok c =
    let whole = compacting_end c.as_slice-list.result.now c.loop-index.done.items c.put.new.list.items c.loop-index.last c.loop-index.index c.in_ok-last-2.last c.loop-index.invariant c.loop-index-test.false c.in_ok-last-2.ensures.same c.in_ok-last-2.ensures.normal c.in_ok-put.ensures in
    subst (λ (z : List WaveletOp). IsCompaction c.args.ops.now z) (sym c.of.ensures)
    (subst (λ (z : List WaveletOp). IsCompaction z c.put.new.list.items) c.as_slice-list.ensures.value whole)
