use Rattle.std.proofs.Common.{rules, ◌≡◌, ◌≤◌, ◌<◌, ◌-◌, ◌++◌, ℕ, [], IfOk, length, slice_set, arith, ap, sym, subst, ◌∙◌}
use Rattle.session_core.specs.News.{reply_message}
use Rattle.session_core.specs.declared.session.Session.{Session}
use Rattle.wavelet_shelf.specs.Shelves.{hosted_of}
use Rattle.pipe_machine.specs.Keeping.{IsEnded}
use Rattle.pipe_machine.specs.Machine.{reply_of, replied}
use Rattle.pipe_machine.specs.declared.seats.Seat.{Seat}
use Rattle.pipe_machine.specs.Runs.{seats_in}
use Rattle.pipe_machine.specs.Seats.{begun, seat_in}
use Rattle.pipe_machine.proofs.Running.{get_front, get_after, get_set, set_front, set_after}
use Rattle.pipe_machine.proofs.Serving.{any_default}
use Rattle.pipe_machine.proofs.reply.+reply_among.Goals as goal

pub returns-then-place-count-clause-changed : goal.returns-then-place-count-clause-changed
returns-then-place-count-clause-changed g t c =
    let xs = c.in-Some.first.now.seats.items in
    let ys = seats_in c.in-Some.rest.now in
    let i = c.args.place in
    let d = c.index_mut.result.now in
    let v : Seat = record { name = d.name; session = c.reply.new.session } in
    let inside : i < length xs = omega (arith, c.if-place-count.true, c.len-count.ensures) in
    let still : i < length (slice_set xs i v) = search (rules, inside) in
    search (rules, set_front xs ys i v inside, get_front (slice_set xs i v) ys i (begun []) still, get_front xs ys i (begun []) inside, any_default xs i d (begun []) inside)

pub returns-else-place-count-clause-changed : goal.returns-else-place-count-clause-changed
returns-else-place-count-clause-changed g t c =
    let xs = c.in-Some.first.now.seats.items in
    let ys = seats_in c.in-Some.rest.now in
    let zs = seats_in c.reply_among.new.runs in
    let i = c.args.place in
    let behind : length xs ≤ i = omega (arith, c.if-place-count.false, c.len-count.ensures) in
    let v : Seat = record { name = (seat_in i (xs ++ ys)).name; session = (seat_in i (xs ++ zs)).session } in
    search (rules, set_after xs ys i v behind, get_after xs zs i (begun []) behind, get_after xs ys i (begun []) behind)

pub returns-then-place-count-clause-reply : goal.returns-then-place-count-clause-reply
returns-then-place-count-clause-reply g t c =
    let xs = c.in-Some.first.now.seats.items in
    let ys = seats_in c.in-Some.rest.now in
    let i = c.args.place in
    let d = c.index_mut.result.now in
    let x = c.reply.new.session in
    let v : Seat = record { name = d.name; session = x } in
    let inside : i < length xs = omega (arith, c.if-place-count.true, c.len-count.ensures) in
    let still : i < length (slice_set xs i v) = search (rules, inside) in
    let after : x ≡ (seat_in i (slice_set xs i v ++ ys)).session = ap (λ (z : Seat). z.session) (sym (get_front (slice_set xs i v) ys i (begun []) still ∙ get_set xs i v (begun []) inside)) in
    let whole : seats_in c.args.runs.now ≡ xs ++ ys = search rules in
    let before : d.session ≡ (seat_in i (seats_in c.args.runs.now)).session = ap (λ (z : Seat). z.session)
    (c.index_mut.ensures.value ∙ any_default xs i d (begun []) inside ∙ sym (get_front xs ys i (begun []) inside) ∙ ap (seat_in i) (sym whole)) in
    subst (λ (p : Session × Session). IfOk c.reply.result (λ r. reply_of (hosted_of c.reply.new.shelf) (p.0, reply_message r) ≡ replied (hosted_of c.args.shelf.now) p.1 c.args.message c.args.time))
    (λ k. (after k, before k)) c.reply.ensures.reply

pub returns-then-place-count-clause-ended : goal.returns-then-place-count-clause-ended
returns-then-place-count-clause-ended g t c =
    let xs = c.in-Some.first.now.seats.items in
    let ys = seats_in c.in-Some.rest.now in
    let i = c.args.place in
    let d = c.index_mut.result.now in
    let inside : i < length xs = omega (arith, c.if-place-count.true, c.len-count.ensures) in
    let whole : seats_in c.args.runs.now ≡ xs ++ ys = search rules in
    let before : d.session ≡ (seat_in i (seats_in c.args.runs.now)).session = ap (λ (z : Seat). z.session)
    (c.index_mut.ensures.value ∙ any_default xs i d (begun []) inside ∙ sym (get_front xs ys i (begun []) inside) ∙ ap (seat_in i) (sym whole)) in
    subst (λ (s : Session). IsEnded c.args.shelf.now c.reply.new.shelf (replied (hosted_of c.args.shelf.now) s c.args.message c.args.time).hosted c.reply.result) before c.reply.ensures.ended

pub returns-else-place-count-clause-reply : goal.returns-else-place-count-clause-reply
returns-else-place-count-clause-reply g t c =
    let xs = c.in-Some.first.now.seats.items in
    let ys = seats_in c.in-Some.rest.now in
    let zs = seats_in c.reply_among.new.runs in
    let i = c.args.place in
    let behind : length xs ≤ i = omega (arith, c.if-place-count.false, c.len-count.ensures) in
    let many : c.len-count.result ≡ length xs = omega (arith, c.len-count.ensures) in
    let whole : seats_in c.args.runs.now ≡ xs ++ ys = search rules in
    let after : (seat_in (i - c.len-count.result) zs).session ≡ (seat_in i (xs ++ zs)).session = ap (λ (z : Seat). z.session)
    (ap (λ (n : ℕ). seat_in (i - n) zs) many ∙ sym (get_after xs zs i (begun []) behind)) in
    let before : (seat_in (i - c.len-count.result) ys).session ≡ (seat_in i (seats_in c.args.runs.now)).session = ap (λ (z : Seat). z.session)
    (ap (λ (n : ℕ). seat_in (i - n) ys) many ∙ sym (get_after xs ys i (begun []) behind) ∙ ap (seat_in i) (sym whole)) in
    subst (λ (p : Session × Session). IfOk c.reply_among.result (λ r. reply_of (hosted_of c.reply_among.new.shelf) (p.0, reply_message r) ≡ replied (hosted_of c.args.shelf.now) p.1 c.args.message c.args.time))
    (λ k. (after k, before k)) c.reply_among.ensures.reply

pub returns-else-place-count-clause-ended : goal.returns-else-place-count-clause-ended
returns-else-place-count-clause-ended g t c =
    let xs = c.in-Some.first.now.seats.items in
    let ys = seats_in c.in-Some.rest.now in
    let i = c.args.place in
    let behind : length xs ≤ i = omega (arith, c.if-place-count.false, c.len-count.ensures) in
    let many : c.len-count.result ≡ length xs = omega (arith, c.len-count.ensures) in
    let whole : seats_in c.args.runs.now ≡ xs ++ ys = search rules in
    let before : (seat_in (i - c.len-count.result) ys).session ≡ (seat_in i (seats_in c.args.runs.now)).session = ap (λ (z : Seat). z.session)
    (ap (λ (n : ℕ). seat_in (i - n) ys) many ∙ sym (get_after xs ys i (begun []) behind) ∙ ap (seat_in i) (sym whole)) in
    subst (λ (s : Session). IsEnded c.args.shelf.now c.reply_among.new.shelf (replied (hosted_of c.args.shelf.now) s c.args.message c.args.time).hosted c.reply_among.result) before c.reply_among.ensures.ended
