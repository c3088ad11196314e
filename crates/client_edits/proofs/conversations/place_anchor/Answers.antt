use Rattle.client_edits.proofs.Talking.{anchored, unanchored}
use Rattle.client_edits.proofs.conversations.place_anchor.Goals as goal

pub returns-in-Ok : goal.returns-in-Ok
returns-in-Ok c =
    anchored c.both.result c.args.after.now c.args.spot.now c.args.thread.now _ c.args.first c.document-document.ensures.value
    c.in_ok-attributes.attributes c.in-Ok.op _ c.in_ok-attributes.ensures c.in-Ok.ensures.can c.in-Ok.ensures.edit c.both.ensures

pub returns-in-Err : goal.returns-in-Err
returns-in-Err c =
    unanchored c.refused.result c.args.after.now c.args.spot.now c.args.thread.now _ c.args.first c.document-document.ensures.value
    c.in-Err.fault c.in-Err.ensures.refused c.refused.ensures
