use Rattle.std.proofs.Common.{◌≡◌, sym, ap, ◌∙◌}
use Rattle.wave_base.specs.Grammar.{is_wavelet_name, is_domain, before, behind, host_of, slash}
use Rattle.wave_base.proofs.Parts.{host_of-good}
use Rattle.wave_base.proofs.wavelet_name.WaveletName.host.Goals as goal

pub returns-clause-part : goal.returns-clause-part
unfolding host_of
returns-clause-part c = c.text_before.ensures ∙ ap (before slash) (c.text_after-wavelet.ensures ∙ ap (behind slash) (c.text_after-after_wave_domain.ensures ∙ ap (behind slash) (c.as_str.ensures.value ∙ c.self.view_is)))

pub returns-clause-good : goal.returns-clause-good
unfolding host_of
returns-clause-good c =
    let part : c.text_before.result.now ≡ host_of c.args.self.now = c.text_before.ensures ∙ ap (before slash) (c.text_after-wavelet.ensures ∙ ap (behind slash) (c.text_after-after_wave_domain.ensures ∙ ap (behind slash) (c.as_str.ensures.value ∙ c.self.view_is))) in
    ap is_domain part ∙ host_of-good c.args.self.now (ap is_wavelet_name (sym c.self.view_is) ∙ c.self.invariant)
