use Rattle.client_edits.proofs.Building.{noted, unnoted}
use Rattle.client_edits.proofs.documents.note_stretch.Goals as goal

pub returns-in-Ok : goal.returns-in-Ok
returns-in-Ok c = noted c.mutated.result _ _ _ c.args.stretch.now _ _ _ _ c.in-Ok.op c.document-document.ensures.value c.as_str.ensures c.text_of.ensures c.in-Ok.ensures.can c.in-Ok.ensures.edit c.mutated.ensures

pub returns : goal.returns
returns c = unnoted c.refused.result _ _ c.args.stretch.now _ _ c.in-Err.fault c.document-document.ensures.value c.in-Err.ensures.refused c.refused.ensures
