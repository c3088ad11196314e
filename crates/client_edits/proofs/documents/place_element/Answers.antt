use Rattle.client_edits.proofs.Building.{placed, unplaced}
use Rattle.client_edits.proofs.documents.place_element.Goals as goal

pub returns-in-Ok : goal.returns-in-Ok
returns-in-Ok c = placed c.mutated.result _ _ _ c.args.spot.now _ _ _ _ c.in-Ok.op c.document-document.ensures.value c.as_str.ensures c.new-attributes.ensures c.in-Ok.ensures.can c.in-Ok.ensures.edit c.mutated.ensures

pub returns : goal.returns
returns c = unplaced c.refused.result _ _ c.args.spot.now _ _ c.in-Err.fault c.document-document.ensures.value c.in-Err.ensures.refused c.refused.ensures
