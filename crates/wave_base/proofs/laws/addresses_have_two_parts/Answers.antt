use Rattle.wave_base.proofs.Made.{address_made}
use Rattle.wave_base.proofs.laws.addresses_have_two_parts.Goals as goal

pub returns-clause-made : goal.returns-clause-made
returns-clause-made c = address_made
