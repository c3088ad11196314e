use Rattle.std.proofs.Common.{sym, ap, ◌∙◌, is_some}
use Rattle.std.specs.FinMap as finite
use Rattle.wavelet_state.proofs.Entries.{get-entries}
use Rattle.wavelet_state.proofs.documents.Documents.has.Goals as goal

pub returns : goal.returns
returns c = c.contains_key.ensures ∙ ap is_some (sym (get-entries c.self.inside.map c.args.name.now) ∙ ap (λ m. finite.get m c.args.name.now) c.self.view_is)
