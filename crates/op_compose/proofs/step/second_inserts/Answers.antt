use Rattle.std.proofs.Common.{◌∙◌, arith}
use Rattle.doc_op.specs.Actions.{insertion}
use Rattle.doc_op.specs.Cursors.{left}
use Rattle.doc_op.specs.Runs.{contents}
use Rattle.op_compose.proofs.Steps.{whole_run, room_second, goes_second, same_growth}
use Rattle.op_compose.proofs.Touches.{any_key}
use Rattle.op_compose.proofs.step.second_inserts.Goals as goal

pub insert_second-requires : goal.insert_second-requires
insert_second-requires c = room_second c.args.done.now (left c.args.f.now) c.args.s.now c.args.s.now.under (contents c.args.run) c.requires.ahead c.requires.room

pub returns : goal.returns
returns c =
    let h = whole_run c.args.s.now insertion c.in_ok-changes.changes (contents c.args.run) c.len.result (c.in_ok-changes.ensures ∙ c.running.ensures) c.requires.ahead c.len.ensures in (
      omega (arith, c.len.ensures, c.requires.some),
      goes_second c.args.done.now c.insert_second.new.self c.args.f.now c.args.s.now c.args.s.now.under c.in_ok-changes.changes (contents c.args.run) c.len.result c.requires.ahead c.len.ensures h c.requires.behind c.in_ok-insert_second.ensures.passed
          (same_growth c.args.done.now c.insert_second.new.self c.len.result _ c.len.ensures c.in_ok-insert_second.ensures.room) c.requires.room (any_key c.insert_second.new.self c.args.f.now.under c.args.s.now.under c.in_ok-insert_second.ensures.touched),
    )
