use Rattle.std.proofs.Common.{[], ◌∷◌}
use Rattle.wavelet_container.proofs.Trails.{kept_grown}
use Rattle.wavelet_container.proofs.cached.CachedHistory.commit.Goals as goal

pub invariant_of-self : goal.invariant_of-self
invariant_of-self c = kept_grown c.self.inside.history.deltas c.commit.new.self.deltas (c.args.prepared.delta ∷ []) c.self.inside.cache c.self.inside.trail c.commit.ensures.deltas c.self.invariant
