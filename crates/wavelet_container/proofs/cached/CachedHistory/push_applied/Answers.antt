use Rattle.wavelet_container.proofs.Trails.{kept_either}
use Rattle.wavelet_container.proofs.cached.CachedHistory.push_applied.Goals as goal

pub invariant_of-self : goal.invariant_of-self
invariant_of-self c = kept_either c.push_applied.result c.self.inside.history c.push_applied.new.self c.args.delta c.self.inside.cache c.self.inside.trail c.push_applied.ensures.ok c.push_applied.ensures.same c.self.invariant
