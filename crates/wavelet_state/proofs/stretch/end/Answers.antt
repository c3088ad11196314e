use Rattle.std.proofs.Common.{arith}
use Rattle.wavelet_state.proofs.Stretches.{end_at}
use Rattle.wavelet_state.proofs.stretch.end.Goals as goal

pub overflow_add-result : goal.overflow_add-result
overflow_add-result c = let e = end_at c.args.edits.now 0 c.in-Some.edit.now c.in-Some.ensures.value in omega (arith, e, c.requires)

pub returns-in-Some : goal.returns-in-Some
returns-in-Some c = end_at c.args.edits.now 0 c.in-Some.edit.now c.in-Some.ensures.value
