use Rattle.std.proofs.Common.{rules}
use Rattle.state_cache.proofs.cache.StateCache.grow.Goals as goal

pub returns-in-Err-clause-same : goal.returns-in-Err-clause-same
returns-in-Err-clause-same c = search rules
