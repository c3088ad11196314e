use Rattle.std.proofs.Common.{sym, ap, ◌∙◌}
use Rattle.wave_base.specs.Grammar.{is_domain}
use Rattle.wave_base.proofs.Parts.{domain-bound}
use Rattle.wave_base.proofs.domain.Domain.text.Goals as goal

pub returns-clause-bound : goal.returns-clause-bound
returns-clause-bound c = domain-bound c.args.self.now (ap is_domain (sym c.self.view_is) ∙ c.self.invariant)
