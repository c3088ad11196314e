use Rattle.std.proofs.Common.{◌≡◌, false, List}
use Rattle.doc_items.specs.declared.item.Item.{Item}
use Rattle.conversation.specs.Edits.{continued, deleted, is_taken}
use Rattle.conversation.specs.Refusals.{IsTreeEdit, IsReplyRefused, IsNextRefused, IsDeleteRefused}
use Rattle.conversation.specs.Trees.{thread_tree}
use Rattle.client_edits.specs.Asked.{IsReply, IsReplied, IsContinued, IsDeleted}
use Rattle.client_edits.proofs.Talking.{talked, untalked}
use Rattle.client_edits.proofs.conversations.go_on.Goals as goal

pub returns-in-Ok : goal.returns-in-Ok
returns-in-Ok c =
    talked c.mutated.result c.args.screen.now _ c.in_ok-name.name c.in_ok-name.ensures c.document-manifest.ensures.value c.in-Ok.op
    (λ z cs. IsTreeEdit cs z (continued c.args.thread.now c.args.new_blip.now (thread_tree z)) × (is_taken c.args.new_blip.now (thread_tree z) ≡ false)) (λ z. IsContinued z c.args.thread.now c.args.new_blip.now) (λ ops on. on)
    (rw (c.as_str.ensures, c.as_str-2.ensures) at c.in-Ok.ensures.edit, rw (c.as_str-2.ensures) at c.in-Ok.ensures.new) c.mutated.ensures

pub returns : goal.returns
returns c =
    untalked c.refused_talk.result c.args.screen.now _ c.in_ok-name.name c.in_ok-name.ensures c.document-manifest.ensures.value c.in-Err.fault
    (λ z. IsNextRefused z c.args.thread.now c.args.new_blip.now) (λ z. IsContinued z c.args.thread.now c.args.new_blip.now) (λ k q. q)
    (rw (c.as_str.ensures, c.as_str-2.ensures) at c.in-Err.ensures.refused) c.refused_talk.ensures
