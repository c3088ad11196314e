use Rattle.std.proofs.Common.{sym, ◌∙◌}
use Rattle.std.specs.FinMap as finite
use Rattle.wavelet_state.proofs.Parts.{none_there}
use Rattle.wavelet_state.proofs.documents.Documents.edit.Goals as goal

pub begin-requires : goal.begin-requires
begin-requires c = none_there (finite.get c.args.self.now c.args.name.now) (sym c.has.ensures ∙ c.if-has.false)
