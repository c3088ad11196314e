use Rattle.std.proofs.Common.{refl}
use Rattle.std.specs.FinMap.{empty}
use Rattle.doc_items.specs.Changes.{none_running}
use Rattle.op_build.proofs.Insertions.{inserts_with, no_notes}
use Rattle.op_build.proofs.contents.insert_contents.Goals as goal

pub returns-clause-edit : goal.returns-clause-edit
returns-clause-edit g c =
    let items = g.D.Items.items c.args.document.now in
    inserts_with c.in_ok-op.op items c.args.place c.len.result c.args.contents.now none_running empty (no_notes none_running refl) c.len.ensures.value
    c.in_ok-check_room.ensures.can.1 c.requires c.in_ok-op.ensures.acts c.in_ok-op.ensures.normal
