use Rattle.std.proofs.Common.{sym, ap, ◌∙◌}
use Rattle.std.specs.FinMap as finite
use Rattle.wavelet_state.proofs.Entries.{get-entries}
use Rattle.wavelet_state.proofs.Parts.{lent_balanced}
use Rattle.wavelet_state.proofs.documents.Documents.get.Goals as goal

pub returns-clause-value : goal.returns-clause-value
returns-clause-value c = c.get.ensures.value ∙ sym (get-entries c.self.inside.map c.args.name.now) ∙ ap (λ m. finite.get m c.args.name.now) c.self.view_is

pub returns-clause-balanced : goal.returns-clause-balanced
returns-clause-balanced c = lent_balanced c.get.result (finite.from_entries c.self.inside.map.entries) c.args.name.now (c.get.ensures.value ∙ sym (get-entries c.self.inside.map c.args.name.now)) c.self.invariant
