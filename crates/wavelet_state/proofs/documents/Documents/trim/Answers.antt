use Rattle.std.proofs.Common.{sym, ◌∙◌}
use Rattle.wavelet_state.proofs.Parts.{trim_empty, trim_other}
use Rattle.wavelet_state.proofs.documents.Documents.trim.Goals as goal

pub returns-then-is_empty : goal.returns-then-is_empty
returns-then-is_empty c = c.remove.ensures ∙ trim_empty c.args.self.now c.args.name.now (sym c.is_empty.ensures ∙ c.if-is_empty.true)

pub returns-else-is_empty : goal.returns-else-is_empty
returns-else-is_empty c = trim_other c.args.self.now c.args.name.now (sym c.is_empty.ensures ∙ c.if-is_empty.false)
