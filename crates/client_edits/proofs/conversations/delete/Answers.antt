use Rattle.std.proofs.Common.{List}
use Rattle.doc_items.specs.declared.item.Item.{Item}
use Rattle.conversation.specs.Edits.{continued, deleted, is_taken}
use Rattle.conversation.specs.Refusals.{IsTreeEdit, IsReplyRefused, IsNextRefused, IsDeleteRefused}
use Rattle.conversation.specs.Trees.{thread_tree}
use Rattle.client_edits.specs.Asked.{IsReply, IsReplied, IsContinued, IsDeleted}
use Rattle.client_edits.proofs.Talking.{talked, untalked}
use Rattle.client_edits.proofs.conversations.delete.Goals as goal

pub returns-in-Ok : goal.returns-in-Ok
returns-in-Ok c =
    talked c.mutated.result c.args.screen.now _ c.in_ok-name.name c.in_ok-name.ensures c.document-manifest.ensures.value c.in-Ok.op
    (λ z cs. IsTreeEdit cs z (deleted c.args.blip.now (thread_tree z))) (λ z. IsDeleted z c.args.blip.now) (λ ops on. on)
    (rw (c.as_str.ensures) at c.in-Ok.ensures.edit) c.mutated.ensures

pub returns : goal.returns
returns c =
    untalked c.refused_talk.result c.args.screen.now _ c.in_ok-name.name c.in_ok-name.ensures c.document-manifest.ensures.value c.in-Err.fault
    (λ z. IsDeleteRefused z c.args.blip.now) (λ z. IsDeleted z c.args.blip.now) (λ k q. q)
    (rw (c.as_str.ensures) at c.in-Err.ensures.refused) c.refused_talk.ensures
