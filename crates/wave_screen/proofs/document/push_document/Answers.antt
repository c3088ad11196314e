use Rattle.std.proofs.Common.{arith, append_assoc}
use Rattle.wave_screen.proofs.Showing.{run_step}
use Rattle.wave_screen.proofs.document.push_document.Goals as goal

pub overflow_add-place : goal.overflow_add-place
overflow_add-place c = let inside = c.in-Some.ensures.inside in omega (arith, inside, c.len-whole.ensures.value, c.len-whole.ensures.bound)

pub loop-run-preserved : goal.loop-run-preserved
loop-run-preserved c = record {
  text = rw (c.in_ok-before.ensures.notes, c.in_ok-before.ensures.text, append_assoc) (rw (run_step c.loop-run.before.now c.args.rope.now c.in-Some.run'.now c.loop-run.place c.in-Some.ensures.front) at c.loop-run.invariant.text);
  within = c.in-Some.ensures.inside;
}
