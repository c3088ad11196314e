use Rattle.std.proofs.Common.{rules, ◌≡◌, ◌≤◌, ◌<◌, ◌++◌, [], length, slice_set, arith}
use Rattle.pipe_machine.specs.Runs.{seats_in}
use Rattle.pipe_machine.specs.Seats.{begun, seat_in}
use Rattle.pipe_machine.proofs.Running.{get_front, get_after, set_front, set_after}
use Rattle.pipe_machine.proofs.deliver.+deliver_at.Goals as goal

pub returns-then-place-count-clause-changed : goal.returns-then-place-count-clause-changed
returns-then-place-count-clause-changed g t c =
    let xs = c.in-Some.first.now.seats.items in
    let ys = seats_in c.in-Some.rest.now in
    let i = c.args.place in
    let v = c.deliver_to.new.seat in
    let inside : i < length xs = omega (arith, c.if-place-count.true, c.len-count.ensures) in
    let still : i < length (slice_set xs i v) = search (rules, inside) in
    search (rules, set_front xs ys i v inside, get_front (slice_set xs i v) ys i (begun []) still)

pub returns-else-place-count-clause-changed : goal.returns-else-place-count-clause-changed
returns-else-place-count-clause-changed g t c =
    let xs = c.in-Some.first.now.seats.items in
    let ys = seats_in c.in-Some.rest.now in
    let zs = seats_in c.deliver_at.new.runs in
    let i = c.args.place in
    let behind : length xs ≤ i = omega (arith, c.if-place-count.false, c.len-count.ensures) in
    search (rules, set_after xs ys i (seat_in i (xs ++ zs)) behind, get_after xs zs i (begun []) behind)
