use Rattle.std.proofs.Common.{◌≤◌, subst}
use Rattle.wavelet_state.specs.Snapshots.{max_inserted}
use Rattle.delta_history.proofs.Finding.{held_end}
use Rattle.delta_history.proofs.log.Log.inserted.Goals as goal

pub returns-clause-bound : goal.returns-clause-bound
returns-clause-bound c = subst (λ n. n ≤ max_inserted) c.self.invariant.inserted (held_end c.self.inside.name c.self.inside.list.items c.self.invariant.legal)
