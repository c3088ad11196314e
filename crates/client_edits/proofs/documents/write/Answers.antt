use Rattle.client_edits.proofs.Building.{written, unwritten}
use Rattle.client_edits.proofs.documents.write.Goals as goal

pub returns-in-Ok : goal.returns-in-Ok
returns-in-Ok c = written c.mutated.result _ _ _ c.args.spot.now _ _ c.in-Ok.op c.document-document.ensures.value c.as_str.ensures c.in-Ok.ensures.can c.in-Ok.ensures.edit c.mutated.ensures

pub returns : goal.returns
returns c = unwritten c.refused.result _ _ c.args.spot.now _ _ c.in-Err.fault c.document-document.ensures.value c.as_str.ensures c.in-Err.ensures.refused c.refused.ensures
