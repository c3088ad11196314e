use Rattle.std.proofs.Common.{◌≡◌, drop}
use Rattle.wave_index.specs.Edges.{edges_from, edges_of}
use Rattle.wave_index.proofs.edges.Edges.of.Given as goal

abbrev pub invariant-loop-component : goal.invariant-loop-component
invariant-loop-component l = edges_from l.edges (drop l.component-index l.component-items) ≡ edges_of l.component-items
