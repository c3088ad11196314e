use Rattle.std.proofs.Common.{arith}
use Rattle.line_loop.proofs.Slices.{length-slice_end}
use Rattle.line_loop.proofs.Telling.{Appends-more}
use Rattle.line_loop.proofs.output.write_all.Goals as goal

pub loop-at-preserved : goal.loop-at-preserved
loop-at-preserved g c = record {
  within = length-slice_end _ _ _ c.loop-at.invariant.within c.in_ok-at.ensures.bound;
  written = Appends-more _ _ _ c.args.bytes.now c.loop-at.at c.in_ok-at.field-0 c.loop-at.invariant.written c.in_ok-at.ensures.bytes;
  later = omega (arith, c.in_ok-at.ensures.cause.later);
}
