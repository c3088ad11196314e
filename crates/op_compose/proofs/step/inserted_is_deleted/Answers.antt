use Rattle.std.proofs.Common.{◌∙◌, sym, arith}
use Rattle.doc_op.specs.Actions.{insertion, deletion}
use Rattle.doc_op.specs.Cursors.{left}
use Rattle.doc_op.specs.Runs.{contents}
use Rattle.op_compose.proofs.Steps.{first_run, room_both, goes_both, unfit_both, same_growth, first_length}
use Rattle.op_compose.proofs.Touches.{any_key}
use Rattle.op_compose.proofs.step.inserted_is_deleted.Goals as goal

pub drop_inserted-requires-clause-room : goal.drop_inserted-requires-clause-room
drop_inserted-requires-clause-room c =
    let x = first_run c.args.f.now insertion c.in_ok-w.w (contents c.args.run) (contents c.first.result) c.min-count.result (c.in_ok-w.ensures ∙ c.running.ensures) c.requires.ahead_x (omega (arith, c.min-count.ensures, c.len.ensures)) c.first.ensures in
    room_both c.args.done.now c.args.f.now (left c.args.s.now) _ c.min-count.result _ x (first_length (contents c.args.run) (contents c.first.result) c.min-count.result (omega (arith, c.min-count.ensures, c.len.ensures)) c.first.ensures) c.requires.room

pub returns-in-Ok : goal.returns-in-Ok
returns-in-Ok c =
    let x = first_run c.args.f.now insertion c.in_ok-w.w (contents c.args.run) (contents c.first.result) c.min-count.result (c.in_ok-w.ensures ∙ c.running.ensures) c.requires.ahead_x (omega (arith, c.min-count.ensures, c.len.ensures)) c.first.ensures in
    let y = first_run c.args.s.now deletion c.in_ok-u.u (contents c.args.other) (contents c.first-2.result) c.min-count.result (c.in_ok-u.ensures ∙ c.running-2.ensures) c.requires.ahead_y (omega (arith, c.min-count.ensures, c.len-2.ensures)) c.first-2.ensures in
    (omega (arith, c.min-count.ensures, c.requires.some, c.requires.some_other, c.len.ensures, c.len-2.ensures), goes_both c.args.done.now c.drop_inserted.new.self c.args.f.now c.args.s.now _ _ c.min-count.result x y c.in-Ok.ensures.passed (same_growth c.args.done.now c.drop_inserted.new.self c.min-count.result _ (sym (first_length (contents c.args.run) (contents c.first.result) c.min-count.result (omega (arith, c.min-count.ensures, c.len.ensures)) c.first.ensures)) c.in-Ok.ensures.room) c.requires.room (any_key c.drop_inserted.new.self c.args.f.now.under c.args.s.now.under c.in-Ok.ensures.touched))

pub returns : goal.returns
returns c =
    let x = first_run c.args.f.now insertion c.in_ok-w.w (contents c.args.run) (contents c.first.result) c.min-count.result (c.in_ok-w.ensures ∙ c.running.ensures) c.requires.ahead_x (omega (arith, c.min-count.ensures, c.len.ensures)) c.first.ensures in
    let y = first_run c.args.s.now deletion c.in_ok-u.u (contents c.args.other) (contents c.first-2.result) c.min-count.result (c.in_ok-u.ensures ∙ c.running-2.ensures) c.requires.ahead_y (omega (arith, c.min-count.ensures, c.len-2.ensures)) c.first-2.ensures in
    unfit_both c.args.done.now c.args.f.now c.args.s.now _ _ _ c.in-Err.fault x y c.in-Err.ensures.passed
