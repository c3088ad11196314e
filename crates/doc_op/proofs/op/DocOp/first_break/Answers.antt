use Rattle.std.proofs.Common.{arith, ◌∙◌}
use Rattle.doc_op.proofs.Structures.{first_break-next}
use Rattle.doc_op.proofs.op.DocOp.first_break.Goals as goal

pub loop-index-preserved : goal.loop-index-preserved
loop-index-preserved c = record {
  same = c.loop-index.invariant.same ∙ first_break-next c.as_slice-component-items.result.now c.loop-index.index c.loop-index.index c.loop-index.depths c.in-Some.behind c.component-item.result c.loop-index-test.true c.component-item.is c.in-Some.ensures.depths;
  inserted = omega (arith, c.in-Some.ensures.inserted, c.loop-index.invariant.inserted);
  deleted = omega (arith, c.in-Some.ensures.deleted, c.loop-index.invariant.deleted);
}
