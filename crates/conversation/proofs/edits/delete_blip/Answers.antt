use Rattle.conversation.proofs.Editing.{tree_edit, deleted_item}
use Rattle.op_build.specs.Edits.{with_attribute}
use Rattle.op_build.specs.Plans.{setting_attribute}
use Rattle.std.proofs.Common.{codes, Some}
use Rattle.conversation.proofs.edits.delete_blip.Goals as goal

pub returns-in-Ok-clause-edit : goal.returns-in-Ok-clause-edit
returns-in-Ok-clause-edit g c =
    let items = g.D.Items.items c.args.manifest.now in
    let key = codes "deleted" in
    let value = Some (codes "true") in
    tree_edit c.in-Ok.op (setting_attribute items c.in-Some.found.place key value) items (with_attribute items c.in-Some.found.place key value) _ c.in-Ok.ensures.edit
    (deleted_item items c.in-Some.found c.args.blip.now c.in-Some.ensures)
