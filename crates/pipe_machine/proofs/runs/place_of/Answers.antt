use Rattle.std.proofs.Common.{◌≡◌, ◌<◌, ◌≤◌, ◌+◌, ◌-◌, ◌/◌, [], Some, sym, subst, ◌∙◌, refl, arith, length, slice_get, ℕ}
use Rattle.std.proofs.lemmas.Option.{slice_get_read}
use Rattle.pipe_machine.specs.Runs.{seats_in}
use Rattle.pipe_machine.specs.Seats.{begun, place_in}
use Rattle.pipe_machine.proofs.Searching.{before_place, after_place, place_within}
use Rattle.pipe_machine.proofs.Serving.{any_default}
use Rattle.pipe_machine.proofs.runs.place_of.Goals as goal

pub loop-low-init : goal.loop-low-init
loop-low-init c = record {
  low = omega arith;
  high = subst (λ (n : ℕ). place_in c.args.name.now 0 (seats_in c.args.runs.now) ≤ n) (sym c.requires.all) (place_within c.args.name.now (seats_in c.args.runs.now));
  bound = omega (arith, c.requires.all);
}

pub loop-low-preserved-then-is_before : goal.loop-low-preserved-then-is_before
loop-low-preserved-then-is_before c =
    let ss = seats_in c.args.runs.now in
    let middle = c.loop-low.low + (c.loop-low.high - c.loop-low.low) / 2 in
    let inside : middle < length ss = omega (arith, c.loop-low-test.true, c.loop-low.invariant.bound) in
    let seat = c.seat_at.result.now in
    let got : slice_get ss middle ≡ Some seat = slice_get_read ss (length ss) middle seat refl inside (c.seat_at.ensures ∙ any_default ss middle (begun []) seat inside) in
    let low = before_place c.args.name.now ss middle seat c.requires.ordered got (sym c.is_before.ensures ∙ c.if-is_before.true) in
    record { low = omega (arith, low); high = c.loop-low.invariant.high; bound = c.loop-low.invariant.bound }

pub loop-low-preserved : goal.loop-low-preserved
loop-low-preserved c =
    let ss = seats_in c.args.runs.now in
    let middle = c.loop-low.low + (c.loop-low.high - c.loop-low.low) / 2 in
    let inside : middle < length ss = omega (arith, c.loop-low-test.true, c.loop-low.invariant.bound) in
    let seat = c.seat_at.result.now in
    let got : slice_get ss middle ≡ Some seat = slice_get_read ss (length ss) middle seat refl inside (c.seat_at.ensures ∙ any_default ss middle (begun []) seat inside) in
    record { low = c.loop-low.invariant.low; high = after_place c.args.name.now ss middle seat got (sym c.is_before.ensures ∙ c.if-is_before.false); bound = omega (arith, inside) }
