use Rattle.doc_pack.proofs.Runs.{passed_on}
use Rattle.doc_pack.proofs.piece.PackedPiece.is.Goals as goal

pub loop-run-preserved : goal.loop-run-preserved
loop-run-preserved c =
    passed_on c.deref-run-items.result.now c.run-item.result c.loop-run.run-index c.args.items.now c.loop-run.rest.now c.in-Some.others.now
    c.loop-run-test.true c.run-item.is c.loop-run.invariant c.in-Some.ensures
