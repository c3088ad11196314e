use Rattle.std.proofs.Common.{◌≡◌, sym, ap, ◌∙◌}
use Rattle.wave_base.specs.Grammar.{is_address, is_domain, behind, domain_of, at_sign}
use Rattle.wave_base.proofs.Parts.{domain_of-good}
use Rattle.wave_base.proofs.address.Address.domain.Goals as goal

pub returns-clause-part : goal.returns-clause-part
unfolding domain_of
returns-clause-part c = c.text_after.ensures ∙ ap (behind at_sign) (c.as_str.ensures.value ∙ c.self.view_is)

pub returns-clause-good : goal.returns-clause-good
unfolding domain_of
returns-clause-good c =
    let part : c.text_after.result.now ≡ domain_of c.args.self.now = c.text_after.ensures ∙ ap (behind at_sign) (c.as_str.ensures.value ∙ c.self.view_is) in
    ap is_domain part ∙ domain_of-good c.args.self.now (ap is_address (sym c.self.view_is) ∙ c.self.invariant)
