use Rattle.std.proofs.Common.{sym, ap, ◌∙◌, length}
use Rattle.std.specs.FinMap as finite
use Rattle.wavelet_state.proofs.Entries.{entries-entries}
use Rattle.wavelet_state.proofs.documents.Documents.len.Goals as goal

pub returns : goal.returns
returns c = c.len.ensures.len ∙ ap length (sym (entries-entries c.self.inside.map.entries c.len.ensures.ordered)) ∙ ap (λ m. length (finite.entries m)) c.self.view_is
