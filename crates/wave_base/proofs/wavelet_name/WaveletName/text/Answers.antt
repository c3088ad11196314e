use Rattle.std.proofs.Common.{sym, ap, ◌∙◌}
use Rattle.wave_base.specs.Grammar.{is_wavelet_name}
use Rattle.wave_base.proofs.Parts.{name-bound}
use Rattle.wave_base.proofs.wavelet_name.WaveletName.text.Goals as goal

pub returns-clause-bound : goal.returns-clause-bound
returns-clause-bound c = name-bound c.args.self.now (ap is_wavelet_name (sym c.self.view_is) ∙ c.self.invariant)
