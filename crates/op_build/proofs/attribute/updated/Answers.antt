use Rattle.std.proofs.Common.{arith, refl}
use Rattle.op_build.proofs.Counts.{input_retained, output_retained, input_next, output_next}
use Rattle.op_build.proofs.attribute.updated.Goals as goal

pub update-requires-clause-input : goal.update-requires-clause-input
update-requires-clause-input c = omega (arith, input_retained _ _ c.in_ok-out.ensures, c.requires.place, c.requires.room)

pub update-requires-clause-output : goal.update-requires-clause-output
update-requires-clause-output c = omega (arith, output_retained _ _ c.in_ok-out.ensures, c.requires.place, c.requires.room)

pub ended-requires-clause-input : goal.ended-requires-clause-input
ended-requires-clause-input c =
    let changed = input_next c.update.new.self c.in_ok-out.out _ 1 c.in_ok-update.ensures.added refl in
    omega (arith, input_retained _ _ c.in_ok-out.ensures, changed, c.requires.place, c.requires.room)

pub ended-requires-clause-output : goal.ended-requires-clause-output
ended-requires-clause-output c =
    let changed = output_next c.update.new.self c.in_ok-out.out _ 1 c.in_ok-update.ensures.added refl in
    omega (arith, output_retained _ _ c.in_ok-out.ensures, changed, c.requires.place, c.requires.room)
