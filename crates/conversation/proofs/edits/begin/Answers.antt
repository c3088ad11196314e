use Rattle.std.proofs.Common.{length, sym, ap, subst, ◌∙◌, Some}
use Rattle.op_build.specs.Edits.{bare, with_contents}
use Rattle.op_build.specs.Plans.{adding_contents, IsEdit}
use Rattle.conversation.proofs.Editing.{tree_edit}
use Rattle.conversation.proofs.Rooting.{first_placed}
use Rattle.conversation.proofs.edits.begin.Goals as goal

pub returns-in-Ok-clause-edit : goal.returns-in-Ok-clause-edit
returns-in-Ok-clause-edit g c =
    let items = g.D.Items.items c.args.manifest.now in
    let cs = c.in_ok-contents.contents in
    let edit = subst (λ k. IsEdit c.in-Ok.op (adding_contents items k cs) items (with_contents items k cs)) c.len.ensures.value c.in-Ok.ensures.edit in
    tree_edit c.in-Ok.op (adding_contents items (length items) cs) items (with_contents items (length items) cs) _ edit (first_placed items c.args.new_blip.now cs c.requires c.in_ok-contents.ensures)
