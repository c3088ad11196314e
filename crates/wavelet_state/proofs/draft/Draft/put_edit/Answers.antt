use Rattle.wavelet_state.proofs.Drafts.{edit_refused}
use Rattle.wavelet_state.proofs.Inverses.{edit_put}
use Rattle.wavelet_state.proofs.Parts.{not_mutated}
use Rattle.wavelet_state.proofs.draft.Draft.put_edit.Goals as goal

pub returns-in-Err-clause-refused : goal.returns-in-Err-clause-refused
returns-in-Err-clause-refused c =
    let m = c.args.self.now.documents in
    let d = c.args.document.now in
    edit_refused c.args.index c.args.op.now d c.args.self.now.roles m c.fault_at.result
    (not_mutated c.args.op.now d m c.in-Err.fault c.args.index c.fault_at.result c.fault_at.ensures c.in-Err.ensures.invalid)

pub returns-clause-ok : goal.returns-clause-ok
returns-clause-ok c =
    edit_put c.args.self.now.roles c.args.self.now.documents c.args.document.now _ c.args.op.now c.in-Ok.inverse c.args.back.now c.put.new.self c.in_ok-put.ensures.ok c.in_ok-document.ensures c.in-Ok.ensures.ok.is
