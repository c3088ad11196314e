use Rattle.std.proofs.Common.{◌≡◌, ◌+◌, ◌<◌, ◌≤◌, ◌++◌, ◌∷◌, [], ℕ, List, sym, ap, subst, ◌∙◌, arith, append-nil, length, map, take, drop, slice_set, slice_index_or}
use Rattle.std.specs.List.{All}
use Rattle.std.proofs.lemmas.List.Elements.{All-set}
use Rattle.wavelet_shelf.specs.Shelves.{hosted_of}
use Rattle.pipe_machine.specs.declared.seats.Seat.{Seat}
use Rattle.pipe_machine.specs.Due.{AreToldFrom, AreTheDue, reach}
use Rattle.pipe_machine.specs.Lines.{lines_of}
use Rattle.pipe_machine.specs.Runs.{seats_in}
use Rattle.hosted_copies.specs.Shown.{shown_in}
use Rattle.pipe_machine.specs.Seats.{begun, seat_in, IsPlain, seats_sent, seats_after}
use Rattle.pipe_machine.proofs.Delivering.{sent_on, after_on}
use Rattle.pipe_machine.proofs.Running.{as_many}
use Rattle.pipe_machine.proofs.Searching.{same_names}
use Rattle.pipe_machine.proofs.Serving.{any_default}
use Rattle.pipe_machine.proofs.Placing.{read_get, next_at, reach_more, none_behind, quiet_from, gap_sent, gap_after, end_sent, end_after, due_set, told_more, told_on, told_all}
use Rattle.pipe_machine.proofs.deliver.deliver_each.Goals as goal

pub loop-place-preserved : goal.loop-place-preserved
loop-place-preserved g c =
    let shown = shown_in (hosted_of c.args.shelf.now) in
    let l = c.loop-place in
    let ss = seats_in l.runs in
    let ps = c.args.places.now in
    let k = l.place-index in
    let i = reach 0 (take k ps) in
    let p = slice_index_or ps k 0 in
    let x = seat_in p (seats_in c.deliver_at.new.runs) in
    let ts = slice_set ss p x in
    let whole : k < length ps = omega (arith, c.loop-place-test.true, l.auto.place-index-end) in
    let next : drop k ps ≡ p ∷ drop (k + 1) ps = next_at ps k p (read_get ps k 0 whole) in
    let due : (i ≤ p) × (p < length ss) × AreToldFrom shown i p ss × AreTheDue shown (p + 1) (drop (k + 1) ps) ss = subst (λ qs. AreTheDue shown i qs ss) next l.invariant.due in
    let on : reach 0 (take (k + 1) ps) ≡ p + 1 = reach_more 0 k p ps (drop (k + 1) ps) next in
    let quiet = quiet_from shown i p ss l.invariant.plain due.2 in
    let named : x.name ≡ (seat_in p ss).name = c.in_ok-last.ensures.name in
    let is : seats_in c.deliver_at.new.runs ≡ ts = c.in_ok-last.ensures.changed in
    let all = c.args.out.now.items ++ lines_of (seats_sent shown (seats_in c.args.runs.now)) in
    let out = c.deliver_at.new.out.items in
    let sent = sent_on shown all l.out.items out ss p (begun []) x due.1 (l.invariant.sent ∙ ap (λ z. l.out.items ++ lines_of z) (gap_sent shown i p ss due.0 quiet)) c.in_ok-last.ensures.sent in
    let after = after_on shown (seats_after shown (seats_in c.args.runs.now)) ss p (begun []) x due.1 (l.invariant.after ∙ gap_after shown i p ss due.0 quiet) c.in_ok-last.ensures.after in
    let names = same_names p ss x (named ∙ ap (λ (s : Seat). s.name) (any_default ss p (begun []) x due.1)) ∙ l.invariant.names in
    record {
      sent = subst (λ (z : List Seat). all ≡ out ++ lines_of (seats_sent shown (drop (reach 0 (take (k + 1) ps)) z))) (sym is) (subst (λ (n : ℕ). all ≡ out ++ lines_of (seats_sent shown (drop n ts))) (sym on) sent);
      after = subst (λ (z : List Seat). seats_after shown (seats_in c.args.runs.now) ≡ take (reach 0 (take (k + 1) ps)) z ++ seats_after shown (drop (reach 0 (take (k + 1) ps)) z)) (sym is)
          (subst (λ (n : ℕ). seats_after shown (seats_in c.args.runs.now) ≡ take n ts ++ seats_after shown (drop n ts)) (sym on) after);
      due = subst (λ (z : List Seat). AreTheDue shown (reach 0 (take (k + 1) ps)) (drop (k + 1) ps) z) (sym is)
          (subst (λ (n : ℕ). AreTheDue shown n (drop (k + 1) ps) ts) (sym on) (due_set shown (p + 1) p (drop (k + 1) ps) ss x (omega arith) due.3));
      told = subst (λ (z : List Seat). AreToldFrom shown 0 (reach 0 (take (k + 1) ps)) z) (sym is)
          (subst (λ (n : ℕ). AreToldFrom shown 0 n ts) (sym on) (told_more shown p ss x due.1 (told_on shown i p ss l.invariant.told due.2) c.in_ok-last.ensures.told));
      last = c.in_ok-last.ensures.last;
      names = ap (λ (z : List Seat). map (λ s. s.name) z) is ∙ names;
      plain = subst (λ (z : List Seat). All (λ s. IsPlain s.session) z) (sym is) (All-set (λ s. IsPlain s.session) ss p x c.in_ok-last.ensures.plain l.invariant.plain);
    }

pub returns-clause-sent : goal.returns-clause-sent
returns-clause-sent g c =
    let shown = shown_in (hosted_of c.args.shelf.now) in
    let l = c.loop-place in
    let ss = seats_in l.runs in
    let ps = c.args.places.now in
    let k = l.place-index in
    let i = reach 0 (take k ps) in
    let told : AreToldFrom shown i (length ss) ss = subst (λ qs. AreTheDue shown i qs ss) (none_behind ps k (omega (arith, c.loop-place-test.false))) l.invariant.due in
    sym (l.invariant.sent ∙ ap (λ z. l.out.items ++ lines_of z) (end_sent shown i ss (quiet_from shown i (length ss) ss l.invariant.plain told)) ∙ append-nil l.out.items)

pub returns-clause-after : goal.returns-clause-after
returns-clause-after g c =
    let shown = shown_in (hosted_of c.args.shelf.now) in
    let l = c.loop-place in
    let ss = seats_in l.runs in
    let ps = c.args.places.now in
    let k = l.place-index in
    let i = reach 0 (take k ps) in
    let told : AreToldFrom shown i (length ss) ss = subst (λ qs. AreTheDue shown i qs ss) (none_behind ps k (omega (arith, c.loop-place-test.false))) l.invariant.due in
    sym (l.invariant.after ∙ end_after shown i ss (quiet_from shown i (length ss) ss l.invariant.plain told))

pub returns-clause-told : goal.returns-clause-told
returns-clause-told g c =
    let shown = shown_in (hosted_of c.args.shelf.now) in
    let l = c.loop-place in
    let ss = seats_in l.runs in
    let ps = c.args.places.now in
    let k = l.place-index in
    let i = reach 0 (take k ps) in
    let told : AreToldFrom shown i (length ss) ss = subst (λ qs. AreTheDue shown i qs ss) (none_behind ps k (omega (arith, c.loop-place-test.false))) l.invariant.due in
    told_all shown ss (told_on shown i (length ss) ss l.invariant.told told)

pub returns-clause-count : goal.returns-clause-count
returns-clause-count g c = as_many (seats_in c.loop-place.runs) (seats_in c.args.runs.now) c.loop-place.invariant.names

pub returns-in_err-last-clause-names : goal.returns-in_err-last-clause-names
returns-in_err-last-clause-names g c =
    let shown = shown_in (hosted_of c.args.shelf.now) in
    let l = c.loop-place in
    let ss = seats_in l.runs in
    let ps = c.args.places.now in
    let k = l.place-index in
    let i = reach 0 (take k ps) in
    let p = slice_index_or ps k 0 in
    let x = seat_in p (seats_in c.deliver_at.new.runs) in
    let whole : k < length ps = omega (arith, c.loop-place-test.true, l.auto.place-index-end) in
    let next : drop k ps ≡ p ∷ drop (k + 1) ps = next_at ps k p (read_get ps k 0 whole) in
    let due : (i ≤ p) × (p < length ss) × AreToldFrom shown i p ss × AreTheDue shown (p + 1) (drop (k + 1) ps) ss = subst (λ qs. AreTheDue shown i qs ss) next l.invariant.due in
    ap (λ (z : List Seat). map (λ s. s.name) z) c.in_err-last.ensures.changed
    ∙ same_names p ss x (c.in_err-last.ensures.name ∙ ap (λ (s : Seat). s.name) (any_default ss p (begun []) x due.1)) ∙ l.invariant.names

pub returns-in_err-last-clause-count : goal.returns-in_err-last-clause-count
returns-in_err-last-clause-count g c =
    let shown = shown_in (hosted_of c.args.shelf.now) in
    let l = c.loop-place in
    let ss = seats_in l.runs in
    let ps = c.args.places.now in
    let k = l.place-index in
    let i = reach 0 (take k ps) in
    let p = slice_index_or ps k 0 in
    let x = seat_in p (seats_in c.deliver_at.new.runs) in
    let whole : k < length ps = omega (arith, c.loop-place-test.true, l.auto.place-index-end) in
    let next : drop k ps ≡ p ∷ drop (k + 1) ps = next_at ps k p (read_get ps k 0 whole) in
    let due : (i ≤ p) × (p < length ss) × AreToldFrom shown i p ss × AreTheDue shown (p + 1) (drop (k + 1) ps) ss = subst (λ qs. AreTheDue shown i qs ss) next l.invariant.due in
    as_many (seats_in c.deliver_at.new.runs) (seats_in c.args.runs.now)
    (ap (λ (z : List Seat). map (λ s. s.name) z) c.in_err-last.ensures.changed
    ∙ same_names p ss x (c.in_err-last.ensures.name ∙ ap (λ (s : Seat). s.name) (any_default ss p (begun []) x due.1)) ∙ l.invariant.names)

pub returns-in_err-last-clause-plain : goal.returns-in_err-last-clause-plain
returns-in_err-last-clause-plain g c =
    let shown = shown_in (hosted_of c.args.shelf.now) in
    let l = c.loop-place in
    let ss = seats_in l.runs in
    let ps = c.args.places.now in
    let k = l.place-index in
    let i = reach 0 (take k ps) in
    let p = slice_index_or ps k 0 in
    let x = seat_in p (seats_in c.deliver_at.new.runs) in
    subst (λ (z : List Seat). All (λ s. IsPlain s.session) z) (sym c.in_err-last.ensures.changed) (All-set (λ s. IsPlain s.session) ss p x c.in_err-last.ensures.plain l.invariant.plain)

pub deliver_at-requires-clause-inside : goal.deliver_at-requires-clause-inside
deliver_at-requires-clause-inside g c =
    let shown = shown_in (hosted_of c.args.shelf.now) in
    let l = c.loop-place in
    let ss = seats_in l.runs in
    let ps = c.args.places.now in
    let k = l.place-index in
    let i = reach 0 (take k ps) in
    let p = slice_index_or ps k 0 in
    let whole : k < length ps = omega (arith, c.loop-place-test.true, l.auto.place-index-end) in
    let next : drop k ps ≡ p ∷ drop (k + 1) ps = next_at ps k p (read_get ps k 0 whole) in
    let due : (i ≤ p) × (p < length ss) × AreToldFrom shown i p ss × AreTheDue shown (p + 1) (drop (k + 1) ps) ss = subst (λ qs. AreTheDue shown i qs ss) next l.invariant.due in
    due.1

pub deliver_at-requires-clause-plain : goal.deliver_at-requires-clause-plain
deliver_at-requires-clause-plain g c =
    let shown = shown_in (hosted_of c.args.shelf.now) in
    let l = c.loop-place in
    let ss = seats_in l.runs in
    let ps = c.args.places.now in
    let k = l.place-index in
    let i = reach 0 (take k ps) in
    let p = slice_index_or ps k 0 in
    let whole : k < length ps = omega (arith, c.loop-place-test.true, l.auto.place-index-end) in
    let next : drop k ps ≡ p ∷ drop (k + 1) ps = next_at ps k p (read_get ps k 0 whole) in
    let due : (i ≤ p) × (p < length ss) × AreToldFrom shown i p ss × AreTheDue shown (p + 1) (drop (k + 1) ps) ss = subst (λ qs. AreTheDue shown i qs ss) next l.invariant.due in
    l.invariant.plain p (begun []) due.1
