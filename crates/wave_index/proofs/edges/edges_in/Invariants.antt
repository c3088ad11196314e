use Rattle.std.proofs.Common.{◌≡◌, drop}
use Rattle.wave_index.specs.Edges.{edges_over, edges_in}
use Rattle.wave_index.proofs.edges.edges_in.Given as goal

abbrev pub invariant-loop-op : goal.invariant-loop-op
invariant-loop-op l = edges_over l.edges l.document (drop l.op-index l.ops) ≡ edges_in l.document l.ops
