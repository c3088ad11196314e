use Rattle.wavelet_state.proofs.Parts.{mutated, not_mutated}
use Rattle.wavelet_state.specs.Parts.{document}
use Rattle.wavelet_state.proofs.Drafts.{trim_through}
use Rattle.wavelet_state.proofs.documents.Documents.mutate.Goals as goal

pub returns-in-Ok-clause-ok : goal.returns-in-Ok-clause-ok
returns-in-Ok-clause-ok c = mutated c.args.op.now c.args.name.now c.args.self.now c.edit.new.self c.trim.new.self c.in-Ok.ensures.ok c.trim.ensures

pub returns-in-Err-clause-refused : goal.returns-in-Err-clause-refused
returns-in-Err-clause-refused c = not_mutated c.args.op.now c.args.name.now c.args.self.now c.in-Err.fault c.args.index c.fault_at.result c.fault_at.ensures c.in-Err.ensures.invalid

pub returns-in-Ok-clause-trim : goal.returns-in-Ok-clause-trim
returns-in-Ok-clause-trim c =
    trim_through c.args.self.now c.edit.new.self c.edit.new.self c.trim.new.self c.args.name.now (document c.edit.new.self c.args.name.now) c.in-Ok.ensures.ok.is (λ q t. t) c.trim.ensures
