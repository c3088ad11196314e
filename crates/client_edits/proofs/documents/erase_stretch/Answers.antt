use Rattle.client_edits.proofs.Building.{erased, unerased}
use Rattle.client_edits.proofs.documents.erase_stretch.Goals as goal

pub returns-in-Ok : goal.returns-in-Ok
returns-in-Ok c = erased c.mutated.result _ _ _ c.args.stretch.now c.in-Ok.op c.document-document.ensures.value c.in-Ok.ensures.can c.in-Ok.ensures.edit c.mutated.ensures

pub returns : goal.returns
returns c = unerased c.refused.result _ _ c.args.stretch.now c.in-Err.fault c.document-document.ensures.value c.in-Err.ensures.refused c.refused.ensures
