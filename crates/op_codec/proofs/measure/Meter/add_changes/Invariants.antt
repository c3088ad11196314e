use Rattle.std.proofs.Common.{◌≡◌, ◌+◌, ◌<◌, ℕ, length, take}
use Rattle.std.specs.List.{flat_map, AllByRecursion}
use Rattle.op_codec.specs.Spelling.{limit, capped, change, IsChange}
use Rattle.op_codec.proofs.measure.Meter.add_changes.Given as goal

abbrev pub invariant-loop-change : goal.invariant-loop-change
invariant-loop-change l = record {
  size : (n : ℕ) → l.fn.self.size ≡ capped n → l.self.size ≡ capped (n + 4 + length (flat_map change (take l.change-index l.changes)));
  short : length (flat_map change l.changes) < limit → AllByRecursion IsChange (take l.change-index l.changes);
}
