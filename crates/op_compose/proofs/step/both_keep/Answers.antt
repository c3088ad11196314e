use Rattle.std.proofs.Common.{arith, rules}
use Rattle.doc_op.specs.Cursors.{left}
use Rattle.op_compose.proofs.Steps.{first_kept, room_both, goes_both, unfit_both, same_growth}
use Rattle.op_compose.proofs.step.both_keep.Goals as goal

pub keep_both-requires-clause-room : goal.keep_both-requires-clause-room
keep_both-requires-clause-room c =
    let x = first_kept c.args.f.now c.running.result.now c.args.x c.first.result c.min-count.result c.running.ensures c.requires.ahead_x (omega (arith, c.min-count.ensures)) (c.first.ensures.actions c.running.result.now) in
    room_both c.args.done.now c.args.f.now (left c.args.s.now) _ c.min-count.result _ x c.first.ensures.count c.requires.room

pub returns-in-Ok : goal.returns-in-Ok
returns-in-Ok c =
    let x = first_kept c.args.f.now c.running.result.now c.args.x c.first.result c.min-count.result c.running.ensures c.requires.ahead_x (omega (arith, c.min-count.ensures)) (c.first.ensures.actions c.running.result.now) in
    let y = first_kept c.args.s.now c.running-2.result.now c.args.y c.first-2.result c.min-count.result c.running-2.ensures c.requires.ahead_y (omega (arith, c.min-count.ensures)) (c.first-2.ensures.actions c.running-2.result.now) in
    (omega (arith, c.min-count.ensures, c.requires.fit_x.0, c.requires.fit_y.0), goes_both c.args.done.now c.keep_both.new.self c.args.f.now c.args.s.now _ _ c.min-count.result x y c.in-Ok.ensures.passed (same_growth c.args.done.now c.keep_both.new.self c.min-count.result _ (omega (arith, c.first.ensures.count)) c.in-Ok.ensures.room) c.requires.room (search rules))

pub returns-in-Err : goal.returns-in-Err
returns-in-Err c =
    let x = first_kept c.args.f.now c.running.result.now c.args.x c.first.result c.min-count.result c.running.ensures c.requires.ahead_x (omega (arith, c.min-count.ensures)) (c.first.ensures.actions c.running.result.now) in
    let y = first_kept c.args.s.now c.running-2.result.now c.args.y c.first-2.result c.min-count.result c.running-2.ensures c.requires.ahead_y (omega (arith, c.min-count.ensures)) (c.first-2.ensures.actions c.running-2.result.now) in
    unfit_both c.args.done.now c.args.f.now c.args.s.now _ _ _ c.in-Err.fault x y c.in-Err.ensures.passed
