use Rattle.std.proofs.Common.{◌∙◌, arith}
use Rattle.doc_op.specs.Actions.{insertion}
use Rattle.doc_op.specs.Cursors.{left}
use Rattle.doc_op.specs.Runs.{contents}
use Rattle.op_compose.proofs.Steps.{first_run, first_kept, room_both, goes_both, unfit_both, same_growth}
use Rattle.op_compose.proofs.Touches.{any_key}
use Rattle.op_compose.proofs.step.inserted_is_kept.Goals as goal

pub keep_inserted-requires-clause-room : goal.keep_inserted-requires-clause-room
keep_inserted-requires-clause-room c =
    let x = first_run c.args.f.now insertion c.in_ok-w.w (contents c.args.run) (contents c.first.result) c.min-count.result (c.in_ok-w.ensures ∙ c.running.ensures) c.requires.ahead_x (omega (arith, c.min-count.ensures, c.len.ensures)) c.first.ensures in
    room_both c.args.done.now c.args.f.now (left c.args.s.now) _ c.min-count.result _ x c.first-2.ensures.count c.requires.room

pub returns-in-Ok : goal.returns-in-Ok
returns-in-Ok c =
    let x = first_run c.args.f.now insertion c.in_ok-w.w (contents c.args.run) (contents c.first.result) c.min-count.result (c.in_ok-w.ensures ∙ c.running.ensures) c.requires.ahead_x (omega (arith, c.min-count.ensures, c.len.ensures)) c.first.ensures in
    let y = first_kept c.args.s.now c.in_ok-u.u c.args.y c.first-2.result c.min-count.result (c.in_ok-u.ensures ∙ c.running-2.ensures) c.requires.ahead_y (omega (arith, c.min-count.ensures)) (c.first-2.ensures.actions c.in_ok-u.u) in
    (omega (arith, c.min-count.ensures, c.requires.fit.0, c.requires.some, c.len.ensures), goes_both c.args.done.now c.keep_inserted.new.self c.args.f.now c.args.s.now _ _ c.min-count.result x y c.in-Ok.ensures.passed (same_growth c.args.done.now c.keep_inserted.new.self c.min-count.result _ (omega (arith, c.first-2.ensures.count)) c.in-Ok.ensures.room) c.requires.room (any_key c.keep_inserted.new.self c.args.f.now.under c.args.s.now.under c.in-Ok.ensures.touched))

pub returns : goal.returns
returns c =
    let x = first_run c.args.f.now insertion c.in_ok-w.w (contents c.args.run) (contents c.first.result) c.min-count.result (c.in_ok-w.ensures ∙ c.running.ensures) c.requires.ahead_x (omega (arith, c.min-count.ensures, c.len.ensures)) c.first.ensures in
    let y = first_kept c.args.s.now c.in_ok-u.u c.args.y c.first-2.result c.min-count.result (c.in_ok-u.ensures ∙ c.running-2.ensures) c.requires.ahead_y (omega (arith, c.min-count.ensures)) (c.first-2.ensures.actions c.in_ok-u.u) in
    unfit_both c.args.done.now c.args.f.now c.args.s.now _ _ _ c.in-Err.fault x y c.in-Err.ensures.passed
