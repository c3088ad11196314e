use Rattle.std.proofs.Common.{sym, ap, ◌∙◌}
use Rattle.std.specs.FinMap as finite
use Rattle.wavelet_state.specs.Parts.{is_empty_there}
use Rattle.wavelet_state.proofs.Entries.{get-entries}
use Rattle.wavelet_state.proofs.Parts.{empty_len}
use Rattle.wavelet_state.proofs.documents.Documents.is_empty.Goals as goal

pub returns-in-Some : goal.returns-in-Some
returns-in-Some c =
    empty_len c.in-Some.rope.now c.len.result c.len.ensures.value
    ∙ ap is_empty_there (c.in-Some.ensures.value ∙ sym (get-entries c.self.inside.map c.args.name.now) ∙ ap (λ m. finite.get m c.args.name.now) c.self.view_is)

pub returns-in-None : goal.returns-in-None
returns-in-None c =
    ap is_empty_there (c.in-None.ensures.value ∙ sym (get-entries c.self.inside.map c.args.name.now) ∙ ap (λ m. finite.get m c.args.name.now) c.self.view_is)
