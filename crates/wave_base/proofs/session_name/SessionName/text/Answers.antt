use Rattle.std.proofs.Common.{sym, ap, ◌∙◌}
use Rattle.wave_base.specs.Grammar.{is_id}
use Rattle.wave_base.proofs.Parts.{id-bound}
use Rattle.wave_base.proofs.session_name.SessionName.text.Goals as goal

pub returns-clause-bound : goal.returns-clause-bound
returns-clause-bound c = id-bound c.args.self.now (ap is_id (sym c.self.view_is) ∙ c.self.invariant)
