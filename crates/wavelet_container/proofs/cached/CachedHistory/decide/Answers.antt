use Rattle.wavelet_container.proofs.Judging.{early_full}
use Rattle.wavelet_container.proofs.cached.CachedHistory.decide.Goals as goal

pub returns-in-Told-clause-full : goal.returns-in-Told-clause-full
returns-in-Told-clause-full c = early_full c.args.self.now c.args.submission.now c.args.time c.in-Told.verdict c.in-Told.ensures.early
