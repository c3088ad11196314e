use Rattle.std.proofs.Common.{◌+◌, length, ap, sym, ◌∙◌}
use Rattle.op_build.specs.Edits.{bare, with_contents}
use Rattle.op_build.specs.Plans.{adding_contents}
use Rattle.conversation.specs.Edits.{is_thread, next_nodes}
use Rattle.conversation.specs.Trees.{thread_tree}
use Rattle.conversation.proofs.Editing.{at_depth, found_has, tree_edit}
use Rattle.conversation.proofs.Entering.{odd_next}
use Rattle.conversation.proofs.Placing.{placed}
use Rattle.conversation.proofs.Rooting.{thread_depth, continued_named, there_named, len_named, next_new, next_missing, next_taken, next_full, next_length}
use Rattle.conversation.proofs.edits.continue_named.Goals as goal

pub returns-in_default-clause-refused : goal.returns-in_default-clause-refused
returns-in_default-clause-refused g c =
    let items = g.D.Items.items c.args.manifest.now in
    next_missing items c.args.thread.now c.args.new_blip.now c.no_blip.result (there_named c.args.thread.now (thread_tree items) c.requires.named ∙ c.in_default.ensures) c.no_blip.ensures

pub returns-then-is_taken-clause-refused : goal.returns-then-is_taken-clause-refused
returns-then-is_taken-clause-refused g c =
    let items = g.D.Items.items c.args.manifest.now in
    let there = there_named c.args.thread.now (thread_tree items) c.requires.named ∙ found_has items c.in-Some.found (is_thread c.args.thread.now) c.in-Some.ensures in
    next_taken items c.args.thread.now c.args.new_blip.now c.taken_id.result there (sym c.is_taken.ensures ∙ c.if-is_taken.true) c.taken_id.ensures

pub returns-in-Ok-clause-edit : goal.returns-in-Ok-clause-edit
returns-in-Ok-clause-edit g c =
    let items = g.D.Items.items c.args.manifest.now in
    let f = c.in-Some.found in
    let found = c.in-Some.ensures in
    let done = c.in-Ok.ensures.ok in
    let cs = c.in_ok-contents.contents in
    let n = c.args.new_blip.now in
    let even = odd_next found.node.depth (thread_depth items f c.args.thread.now found) in
    let at = at_depth f.reading found.node.depth found.begun.found found.inside found.begun.passed in
    let new = next_new f.reading (found.node.depth + 1) n cs at even c.in_ok-contents.ensures in
    let is = continued_named c.args.thread.now n (thread_tree items) c.requires.named ∙ placed items (bare cs) f (is_thread c.args.thread.now) done.behind found done.end (next_nodes n) new in
    tree_edit c.in-Ok.op (adding_contents items (f.place + 1 + done.behind) cs) items (with_contents items (f.place + 1 + done.behind) cs) _ done.edit is

pub returns-clause-refused : goal.returns-clause-refused
returns-clause-refused g c =
    let items = g.D.Items.items c.args.manifest.now in
    let t = c.args.thread.now in
    let there = there_named t (thread_tree items) c.requires.named ∙ found_has items c.in-Some.found (is_thread t) c.in-Some.ensures in
    let many = ap (λ k. length items + k) (next_length c.args.new_blip.now c.in_ok-contents.contents c.in_ok-contents.ensures ∙ sym (len_named t items c.requires.named)) in
    next_full items t c.args.new_blip.now (length items + length c.in_ok-contents.contents) c.in-Err.fault there (sym c.is_taken.ensures ∙ c.if-is_taken.false) many c.in-Err.ensures.refused
