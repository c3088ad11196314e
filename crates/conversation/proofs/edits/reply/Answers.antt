use Rattle.std.proofs.Common.{◌+◌, length, ap, sym}
use Rattle.op_build.specs.Edits.{bare, with_contents}
use Rattle.op_build.specs.Plans.{adding_contents}
use Rattle.conversation.specs.Edits.{is_blip, reply_nodes}
use Rattle.conversation.proofs.Editing.{found_has, tree_edit, reply_taken, reply_full, reply_new, reply_length, blip_depth}
use Rattle.conversation.proofs.Placing.{placed}
use Rattle.conversation.proofs.edits.reply.Goals as goal

pub returns-in-Some-taken-clause-refused : goal.returns-in-Some-taken-clause-refused
returns-in-Some-taken-clause-refused g c =
    let items = g.D.Items.items c.args.manifest.now in
    reply_taken items c.args.blip.now c.args.thread.now c.args.new_blip.now c.in-Some-taken.fault (found_has items c.in-Some.found (is_blip c.args.blip.now) c.in-Some.ensures) c.in-Some-taken.ensures

pub returns-in-Ok-clause-edit : goal.returns-in-Ok-clause-edit
returns-in-Ok-clause-edit g c =
    let items = g.D.Items.items c.args.manifest.now in
    let f = c.in-Some.found in
    let found = c.in-Some.ensures in
    let done = c.in-Ok.ensures.ok in
    let depth = blip_depth items f c.args.blip.now found in
    let new = reply_new f.reading found.node.depth c.args.inline c.args.thread.now c.args.new_blip.now c.in_ok-contents.contents found.begun.found found.inside found.begun.passed depth c.in_ok-contents.ensures in
    let is = placed items (bare c.in_ok-contents.contents) f (is_blip c.args.blip.now) done.behind found done.end (reply_nodes c.args.inline c.args.thread.now c.args.new_blip.now) new in
    tree_edit c.in-Ok.op (adding_contents items (f.place + 1 + done.behind) c.in_ok-contents.contents) items (with_contents items (f.place + 1 + done.behind) c.in_ok-contents.contents) _ done.edit is

pub returns-clause-refused : goal.returns-clause-refused
returns-clause-refused g c =
    let items = g.D.Items.items c.args.manifest.now in
    reply_full items c.args.blip.now c.args.thread.now c.args.new_blip.now (length items + length c.in_ok-contents.contents) c.in-Err.fault
    (found_has items c.in-Some.found (is_blip c.args.blip.now) c.in-Some.ensures) c.in_default-taken.ensures
    (ap (λ n. length items + n) (reply_length c.args.inline c.args.thread.now c.args.new_blip.now c.in_ok-contents.contents c.in_ok-contents.ensures)) c.in-Err.ensures.refused
