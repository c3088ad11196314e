use Rattle.std.proofs.Common.{◌+◌, refl}
use Rattle.op_build.specs.Edits.{bare, with_contents}
use Rattle.op_build.specs.Plans.{adding_contents}
use Rattle.conversation.proofs.Editing.{tree_edit}
use Rattle.conversation.proofs.Rooting.{next_new, reading_is, root_placed}
use Rattle.conversation.proofs.edits.continue_root.Goals as goal

pub returns-in-Ok-clause-edit : goal.returns-in-Ok-clause-edit
returns-in-Ok-clause-edit g c =
    let items = g.D.Items.items c.args.manifest.now in
    let f = c.in-Some.found in
    let root = c.in-Some.ensures in
    let done = c.in-Ok.ensures.ok in
    let cs = c.in_ok-contents.contents in
    let n = c.args.new_blip.now in
    let new = next_new f.reading 0 n cs (reading_is items (bare cs) f done.behind root done.end) refl c.in_ok-contents.ensures in
    tree_edit c.in-Ok.op (adding_contents items (f.place + 1 + done.behind) cs) items (with_contents items (f.place + 1 + done.behind) cs) _ done.edit (root_placed items (bare cs) f done.behind root done.end n new)
