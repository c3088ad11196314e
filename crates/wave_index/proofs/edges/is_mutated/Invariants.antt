use Rattle.std.proofs.Common.{◌≡◌, drop}
use Rattle.wave_index.specs.Edges.{is_mutated}
use Rattle.wave_index.proofs.edges.is_mutated.Given as goal

abbrev pub invariant-loop-op : goal.invariant-loop-op
invariant-loop-op l = is_mutated l.document (drop l.op-index l.ops) ≡ is_mutated l.document l.ops
