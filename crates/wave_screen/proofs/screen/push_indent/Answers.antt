use Rattle.std.proofs.Common.{append_assoc}
use Rattle.wave_screen.proofs.Showing.{indent_step}
use Rattle.wave_screen.proofs.screen.push_indent.Goals as goal

pub loop-preserved : goal.loop-preserved
loop-preserved c = rw (c.in_ok-push_str.ensures.bytes, append_assoc) (rw (indent_step c.args.depth c.loop.counter c.loop-test.true) at c.loop.invariant)
