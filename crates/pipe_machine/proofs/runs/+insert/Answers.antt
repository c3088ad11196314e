use Rattle.std.proofs.Common.{rules, ◌≡◌, ◌≤◌, length, arith}
use Rattle.std.proofs.lemmas.Result.{on_ok_weaker}
use Rattle.pipe_machine.specs.Runs.{seats_in}
use Rattle.pipe_machine.proofs.Running.{put_behind}
use Rattle.pipe_machine.proofs.runs.+insert.Goals as goal

pub returns-else-place-count-clause-put : goal.returns-else-place-count-clause-put
returns-else-place-count-clause-put t c =
    let xs = c.in-Some.first.now.seats.items in
    let ys = seats_in c.in-Some.rest.now in
    let i = c.args.place in
    let behind : length xs ≤ i = omega (arith, c.if-place-count.false, c.len-count.ensures) in
    on_ok_weaker c.insert-else-place-count.result (λ is. search (rules, is, put_behind xs ys i c.args.seat behind)) c.insert-else-place-count.ensures.put
