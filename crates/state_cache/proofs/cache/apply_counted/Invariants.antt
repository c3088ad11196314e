use Rattle.std.proofs.Common.{◌≡◌, ◌≤◌, ◌+◌, drop}
use Rattle.delta_history.specs.Points.{run_all}
use Rattle.state_cache.proofs.cache.apply_counted.Given as goal

abbrev pub invariant-loop-delta : goal.invariant-loop-delta
invariant-loop-delta g l = record {
  state : run_all l.state (drop l.delta-index l.fn.deltas) ≡ run_all l.fn.state l.fn.deltas;
  steps : l.steps ≤ l.fn.steps + l.delta-index;
}
