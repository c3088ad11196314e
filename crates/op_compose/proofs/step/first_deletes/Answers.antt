use Rattle.std.proofs.Common.{◌∙◌, arith}
use Rattle.doc_op.specs.Actions.{deletion}
use Rattle.doc_op.specs.Cursors.{left}
use Rattle.doc_op.specs.Runs.{contents}
use Rattle.op_compose.proofs.Steps.{whole_run, room_first, goes_first, run_fits, same_growth}
use Rattle.op_compose.proofs.Touches.{any_key}
use Rattle.op_compose.proofs.step.first_deletes.Goals as goal

pub delete_first-requires : goal.delete_first-requires
delete_first-requires c = room_first c.args.done.now c.args.f.now (left c.args.s.now) _ (run_fits c.args.f.now deletion (contents c.args.run) c.requires.ahead) c.requires.room

pub returns : goal.returns
returns c =
    let h = whole_run c.args.f.now deletion c.in_ok-changes.changes (contents c.args.run) c.len.result (c.in_ok-changes.ensures ∙ c.running.ensures) c.requires.ahead c.len.ensures in
    (omega (arith, c.len.ensures, c.requires.some), goes_first c.args.done.now c.delete_first.new.self c.args.f.now c.args.s.now _ c.len.result h c.in_ok-delete_first.ensures.passed (same_growth c.args.done.now c.delete_first.new.self c.len.result _ c.len.ensures c.in_ok-delete_first.ensures.room) c.requires.room (any_key c.delete_first.new.self c.args.f.now.under c.args.s.now.under c.in_ok-delete_first.ensures.touched))
