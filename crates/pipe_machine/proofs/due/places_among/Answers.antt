use Rattle.std.proofs.Common.{◌≡◌, ◌+◌, ◌<◌, ◌≤◌, ◌++◌, ℕ, List, Some, refl, sym, ap, subst, ◌∙◌, arith, append_assoc, append-nil, length, length-append, drop, slice_get}
use Rattle.std.proofs.lemmas.Option.{slice_get_read}
use Rattle.pipe_machine.specs.declared.runs.Run.{Run}
use Rattle.pipe_machine.specs.declared.seats.Seat.{Seat}
use Rattle.pipe_machine.specs.Due.{due_among, AreTheDue}
use Rattle.pipe_machine.specs.Runs.{seats_in}
use Rattle.pipe_machine.proofs.Placing.{among_apart, due_all, next_at, none_left}
use Rattle.pipe_machine.proofs.due.places_among.Goals as goal

pub loop-run-preserved : goal.loop-run-preserved
loop-run-preserved c =
    let d = c.args.due.now in
    let rs = c.as_slice-run-items.result.now in
    let k = c.loop-run.run-index in
    let r = c.run-item.result in
    let f = c.loop-run.first in
    let items = c.loop-run.places.items in
    let xs = r.seats.items in
    let ys = seats_in (drop (k + 1) rs) in
    let inside : k < length rs = omega (arith, c.loop-run-test.true, c.loop-run.auto.run-index-end) in
    let got : slice_get rs k ≡ Some r = slice_get_read rs (length rs) k r refl inside c.run-item.is in
    let next : seats_in (drop k rs) ≡ xs ++ ys = ap seats_in (next_at rs k r got) in
    let counted : length (seats_in (drop k rs)) ≡ length xs + length ys = ap (λ (l : List Seat). length l) next ∙ length-append xs ys in
    let many : c.len-count.result ≡ length xs = omega (arith, c.len-count.ensures) in
    record {
      whole = c.loop-run.invariant.whole ∙ ap (λ (l : List Seat). items ++ due_among d f l) next ∙ ap (λ (l : List ℕ). items ++ l) (among_apart d f xs ys)
          ∙ sym (append_assoc items (due_among d f xs) (due_among d (f + length xs) ys))
          ∙ ap (λ (l : List ℕ). l ++ due_among d (f + length xs) ys) (sym (c.in_ok-push_due.ensures ∙ ap (λ (l : List Seat). items ++ due_among d f l) c.as_slice.ensures.value))
          ∙ ap (λ (n : ℕ). c.push_due.new.places.items ++ due_among d (f + n) ys) (sym many);
      counted = omega (arith, c.loop-run.invariant.counted, counted, many);
    }

pub returns : goal.returns
returns c shown alone =
    let d = c.args.due.now in
    let rs = c.as_slice-run-items.result.now in
    let k = c.loop-run.run-index in
    let items = c.loop-run.places.items in
    let ss = seats_in c.args.seats.now.runs.items in
    let same : seats_in rs ≡ ss = ap (λ (l : List Run). seats_in l) c.as_slice-run-items.ensures.value in
    let over : length rs ≤ k = omega (arith, c.loop-run-test.false) in
    let whole : due_among d 0 ss ≡ items = ap (λ (l : List Seat). due_among d 0 l) (sym same) ∙ c.loop-run.invariant.whole
    ∙ ap (λ (l : List Run). items ++ due_among d c.loop-run.first (seats_in l)) (none_left rs k over) ∙ append-nil items in
    subst (λ (ps : List ℕ). AreTheDue shown 0 ps ss) whole (due_all shown d 0 ss ss refl alone)
