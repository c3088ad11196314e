use Rattle.std.proofs.lemmas.Result.{IfOk-weaker}
use Rattle.wavelet_container.proofs.Bases.{at_end}
use Rattle.wavelet_container.proofs.cached.CachedHistory.state_after.Goals as goal

pub returns-then-place-deltas-clause-value : goal.returns-then-place-deltas-clause-value
returns-then-place-deltas-clause-value c =
    IfOk-weaker c.copy.result _ _ (λ s e. at_end c.self.inside.history c.args.self.now c.args.place c.deltas.result.now s c.state.result.now c.self.view_is c.deltas.ensures.value c.deltas.ensures.legal c.if-place-deltas.true c.state.ensures e) c.copy.ensures
