use Rattle.std.proofs.Common.{refl}
use Rattle.wave_base.specs.Grammar.{is_word, is_id, is_domain, before, behind, joined, is_wavelet_part, is_after_wave_domain, is_wavelet_name}
use Rattle.load_script.specs.Names.{the_wavelet}
use Rattle.load_script.proofs.names.wavelet.Goals as goal

pub parsed_wavelet-requires : goal.parsed_wavelet-requires
unfolding is_wavelet_name is_after_wave_domain is_wavelet_part joined before behind is_id is_domain is_word
parsed_wavelet-requires c = refl

pub returns : goal.returns
unfolding the_wavelet
returns c = c.parsed_wavelet.ensures
