use Rattle.std.proofs.Common.{sym}
use Rattle.wave_base.specs.Grammar.{is_wavelet_name, is_domain, is_after_wave_domain, slash}
use Rattle.wave_base.proofs.Cuts.{joined-none, joined-both, joined-not}
use Rattle.wave_base.proofs.grammar.is_wavelet_name.Goals as goal

pub returns-then-is_domain : goal.returns-then-is_domain
unfolding is_wavelet_name
returns-then-is_domain c = joined-both slash is_domain is_after_wave_domain c.args.text.now c.in-Some.domain.now c.in-Some.rest.now _ _ c.in-Some.ensures c.is_domain.ensures c.if-is_domain.true c.is_after_wave_domain.ensures

pub returns-else-is_domain : goal.returns-else-is_domain
unfolding is_wavelet_name
returns-else-is_domain c = joined-not slash is_domain is_after_wave_domain c.args.text.now c.in-Some.domain.now c.in-Some.rest.now _ c.in-Some.ensures c.is_domain.ensures c.if-is_domain.false

pub returns-in-None : goal.returns-in-None
unfolding is_wavelet_name
returns-in-None c = sym (joined-none slash is_domain is_after_wave_domain c.args.text.now c.in-None.ensures)
