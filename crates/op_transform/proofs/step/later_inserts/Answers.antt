use Rattle.std.proofs.Common.{ap, ◌∙◌, map, arith}
use Rattle.doc_op.specs.Actions.{insertion}
use Rattle.doc_op.specs.Cursors.{left}
use Rattle.doc_op.specs.Runs.{contents}
use Rattle.op_transform.proofs.Steps.{room_later, goes_later}
use Rattle.op_transform.proofs.step.later_inserts.Goals as goal

pub insert_later-requires : goal.insert_later-requires
insert_later-requires c = room_later c.args.done.now c.args.l.now (left c.args.e.now) c.args.l.now.under (contents c.args.run) c.requires.ahead c.requires.room

pub returns : goal.returns
returns c =
    let ahead = ap (λ u. map (insertion u) (contents c.args.run)) (c.in_ok-changes.ensures ∙ c.running.ensures) ∙ c.requires.ahead in
    (omega (arith, c.len.ensures, c.requires.some), goes_later _ _ _ _ c.in_ok-changes.changes (contents c.args.run) _ ahead c.len.ensures c.in_ok-insert_later.ensures.passed c.in_ok-insert_later.ensures.room c.in_ok-insert_later.ensures.touched c.requires.room)
