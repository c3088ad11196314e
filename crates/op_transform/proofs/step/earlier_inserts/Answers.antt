use Rattle.std.proofs.Common.{ap, ◌∙◌, map, arith}
use Rattle.doc_op.specs.Actions.{insertion}
use Rattle.doc_op.specs.Cursors.{left}
use Rattle.doc_op.specs.Runs.{contents}
use Rattle.op_transform.proofs.Steps.{room_earlier, goes_earlier}
use Rattle.op_transform.proofs.step.earlier_inserts.Goals as goal

pub insert_earlier-requires : goal.insert_earlier-requires
insert_earlier-requires c = room_earlier c.args.done.now (left c.args.l.now) c.args.e.now c.args.e.now.under (contents c.args.run) c.requires.ahead c.requires.room

pub returns : goal.returns
returns c =
    let ahead = ap (λ u. map (insertion u) (contents c.args.run)) (c.in_ok-changes.ensures ∙ c.running.ensures) ∙ c.requires.ahead in
    (omega (arith, c.len.ensures, c.requires.some), goes_earlier _ _ _ _ c.in_ok-changes.changes (contents c.args.run) _ ahead c.len.ensures c.requires.behind c.in_ok-insert_earlier.ensures.passed c.in_ok-insert_earlier.ensures.room c.in_ok-insert_earlier.ensures.touched c.requires.room)
