use Rattle.std.proofs.Common.{sym, ap, ◌∙◌}
use Rattle.wave_base.specs.Grammar.{is_address}
use Rattle.wave_base.proofs.Parts.{address-bound}
use Rattle.wave_base.proofs.address.Address.text.Goals as goal

pub returns-clause-bound : goal.returns-clause-bound
returns-clause-bound c = address-bound c.args.self.now (ap is_address (sym c.self.view_is) ∙ c.self.invariant)
