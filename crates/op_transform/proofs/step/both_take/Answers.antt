use Rattle.op_transform.proofs.Steps.{firsts, both_some, room_both, goes_both, broken_both}
use Rattle.op_transform.proofs.step.both_take.Goals as goal

pub meet-requires-clause-room : goal.meet-requires-clause-room
meet-requires-clause-room c =
    let f = firsts c.args.l.now c.args.e.now c.running.result.now c.running-2.result.now c.args.x c.args.y c.first.result c.first-2.result c.min-count.result c.len.result c.len-2.result c.running.ensures c.running-2.ensures c.requires.ahead_x c.requires.ahead_y c.len.ensures c.len-2.ensures c.min-count.ensures c.first.ensures.actions c.first-2.ensures.actions c.first.ensures.length c.first-2.ensures.length in
    room_both _ _ _ _ _ _ f.0 c.requires.room

pub returns-in-Ok : goal.returns-in-Ok
returns-in-Ok c =
    let f = firsts c.args.l.now c.args.e.now c.running.result.now c.running-2.result.now c.args.x c.args.y c.first.result c.first-2.result c.min-count.result c.len.result c.len-2.result c.running.ensures c.running-2.ensures c.requires.ahead_x c.requires.ahead_y c.len.ensures c.len-2.ensures c.min-count.ensures c.first.ensures.actions c.first-2.ensures.actions c.first.ensures.length c.first-2.ensures.length in
    (both_some _ _ _ _ _ c.requires.fit_x c.requires.fit_y c.len.ensures c.len-2.ensures c.min-count.ensures, goes_both _ _ _ _ _ _ _ _ _ f.0 f.1 c.in-Ok.ensures.passed c.in-Ok.ensures.room c.running.ensures c.running-2.ensures c.in-Ok.ensures.in_step c.requires.room)

pub returns-in-Err : goal.returns-in-Err
returns-in-Err c =
    let f = firsts c.args.l.now c.args.e.now c.running.result.now c.running-2.result.now c.args.x c.args.y c.first.result c.first-2.result c.min-count.result c.len.result c.len-2.result c.running.ensures c.running-2.ensures c.requires.ahead_x c.requires.ahead_y c.len.ensures c.len-2.ensures c.min-count.ensures c.first.ensures.actions c.first-2.ensures.actions c.first.ensures.length c.first-2.ensures.length in
    broken_both _ _ _ _ _ _ _ _ c.in-Err.fault f.0 f.1 c.in-Err.ensures.passed
