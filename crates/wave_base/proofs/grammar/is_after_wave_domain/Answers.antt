use Rattle.std.proofs.Common.{sym}
use Rattle.wave_base.specs.Grammar.{is_after_wave_domain, is_id, is_wavelet_part, slash}
use Rattle.wave_base.proofs.Cuts.{joined-none, joined-both, joined-not}
use Rattle.wave_base.proofs.grammar.is_after_wave_domain.Goals as goal

pub returns-then-is_id : goal.returns-then-is_id
unfolding is_after_wave_domain
returns-then-is_id c = joined-both slash is_id is_wavelet_part c.args.text.now c.in-Some.id.now c.in-Some.wavelet.now _ _ c.in-Some.ensures c.is_id.ensures c.if-is_id.true c.is_wavelet_part.ensures

pub returns-else-is_id : goal.returns-else-is_id
unfolding is_after_wave_domain
returns-else-is_id c = joined-not slash is_id is_wavelet_part c.args.text.now c.in-Some.id.now c.in-Some.wavelet.now _ c.in-Some.ensures c.is_id.ensures c.if-is_id.false

pub returns-in-None : goal.returns-in-None
unfolding is_after_wave_domain
returns-in-None c = sym (joined-none slash is_id is_wavelet_part c.args.text.now c.in-None.ensures)
