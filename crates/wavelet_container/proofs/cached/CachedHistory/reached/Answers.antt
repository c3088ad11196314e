use Rattle.wavelet_container.proofs.Bases.{valid_here}
use Rattle.wavelet_container.proofs.cached.CachedHistory.reached.Goals as goal

pub reach-requires-clause-valid : goal.reach-requires-clause-valid
reach-requires-clause-valid c = valid_here _ _ _ c.deltas.ensures.value c.deltas.ensures.legal
