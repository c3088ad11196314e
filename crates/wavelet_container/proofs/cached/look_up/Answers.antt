use Rattle.wavelet_container.proofs.Bases.{valid_here}
use Rattle.wavelet_container.proofs.cached.look_up.Goals as goal

pub grow-requires-clause-valid : goal.grow-requires-clause-valid
grow-requires-clause-valid c = valid_here _ _ _ c.deltas-deltas.ensures.value c.deltas-deltas.ensures.legal

pub state_counted-requires-clause-valid : goal.state_counted-requires-clause-valid
state_counted-requires-clause-valid c = valid_here _ _ _ c.deltas-deltas.ensures.value c.deltas-deltas.ensures.legal
