use Rattle.std.proofs.Common.{◌≡◌, ◌+◌, ◌<◌, ◌++◌, ℕ, List, Some, refl, sym, ap, ◌∙◌, arith, append-nil, length, drop, slice_get}
use Rattle.std.proofs.lemmas.Option.{slice_get_read}
use Rattle.pipe_machine.specs.declared.seats.Seat.{Seat}
use Rattle.pipe_machine.specs.Due.{due_among}
use Rattle.pipe_machine.proofs.Placing.{among_more, none_left}
use Rattle.pipe_machine.proofs.due.push_due.Goals as goal

first_place : (f : ℕ) → f ≡ f + 0
first_place f = omega arith

pub loop-index-init : goal.loop-index-init
loop-index-init c = ap (λ (n : ℕ). c.args.places.now.items ++ due_among c.args.due.now n c.args.seats.now) (first_place c.args.first)

pub loop-index-preserved : goal.loop-index-preserved
loop-index-preserved c =
    let ss = c.args.seats.now in
    let i = c.loop-index.index in
    let s = c.index-seats-index.result in
    let inside : i < length ss = omega (arith, c.loop-index-test.true, c.loop-index.auto.index-end) in
    let got : slice_get ss i ≡ Some s = slice_get_read ss (length ss) i s refl inside c.index-seats-index.is in
    among_more c.args.due.now c.args.first i ss s _ c.loop-index.places.items c.push_if.new.list.items c.is_due.result got c.is_due.ensures c.in_ok-push_if.ensures c.loop-index.invariant

pub returns : goal.returns
returns c =
    let ss = c.args.seats.now in
    let i = c.loop-index.index in
    sym (c.loop-index.invariant ∙ ap (λ (l : List Seat). c.loop-index.places.items ++ due_among c.args.due.now (c.args.first + i) l) (none_left ss i (omega (arith, c.loop-index-test.false))) ∙ append-nil c.loop-index.places.items)
