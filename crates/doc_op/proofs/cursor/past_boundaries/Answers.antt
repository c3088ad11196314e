use Rattle.std.proofs.Common.{arith}
use Rattle.std.proofs.lemmas.Grind.{common_steps}
use Rattle.doc_op.proofs.Cursors.{touched_on}
use Rattle.doc_op.proofs.cursor.past_boundaries.Goals as goal

pub loop-boundary-preserved : goal.loop-boundary-preserved
loop-boundary-preserved c = record {
  sound = grind (arith, common_steps);
  same = grind (arith, common_steps);
  touched =
      touched_on c.args.touched.now c.loop-boundary.touched c.add.new.self c.args.running.now c.loop-boundary.running c.step.new.self c.in-Some-AnnotationBoundary.boundary
      c.loop-boundary.invariant.touched c.in_ok-add.ensures c.in_ok-step.ensures;
}
