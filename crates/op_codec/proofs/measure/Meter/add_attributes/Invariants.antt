use Rattle.std.proofs.Common.{◌≡◌, ◌+◌, ◌<◌, ◌≤◌, ℕ, length, map}
use Rattle.std.specs.List.{flat_map, AllByRecursion}
use Rattle.std.specs.FinMap as finite
use Rattle.doc_items.specs.Maps.{pair_of}
use Rattle.op_codec.specs.Spelling.{limit, capped, attribute, IsAttribute}
use Rattle.op_codec.proofs.measure.Meter.add_attributes.Given as goal

abbrev pub invariant-loop-key : goal.invariant-loop-key
invariant-loop-key l = record {
  size : (n : ℕ) → l.fn.self.size ≡ capped n → (k : ℕ) × (l.self.size ≡ capped (n + 4 + k)) × (k + length (flat_map attribute (map pair_of l.key-iterator)) ≡ length (flat_map attribute (finite.entries l.map)));
  within : length (flat_map attribute (map pair_of l.key-iterator)) ≤ length (flat_map attribute (finite.entries l.map));
  short : length (flat_map attribute (finite.entries l.map)) < limit → AllByRecursion IsAttribute (map pair_of l.key-iterator) → AllByRecursion IsAttribute (finite.entries l.map);
}
