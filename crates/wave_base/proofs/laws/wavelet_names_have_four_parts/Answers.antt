use Rattle.wave_base.proofs.Made.{name_made}
use Rattle.wave_base.proofs.laws.wavelet_names_have_four_parts.Goals as goal

pub returns-clause-made : goal.returns-clause-made
returns-clause-made c = name_made
