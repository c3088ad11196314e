use Rattle.std.proofs.Common.{sym, ◌∙◌}
use Rattle.std.specs.FinMap as finite
use Rattle.wavelet_state.proofs.Parts.{back_absent, none_there}
use Rattle.wavelet_state.proofs.documents.Documents.try_edit.Goals as goal

pub begin-requires : goal.begin-requires
begin-requires c = none_there (finite.get c.args.self.now c.args.name.now) (sym c.has.ensures ∙ c.if-has.false)

pub returns-in_ok-begin-clause-back : goal.returns-in_ok-begin-clause-back
returns-in_ok-begin-clause-back c = back_absent c.args.self.now c.begin.new.self c.args.name.now (none_there (finite.get c.args.self.now c.args.name.now) (sym c.has.ensures ∙ c.if-has.false))
