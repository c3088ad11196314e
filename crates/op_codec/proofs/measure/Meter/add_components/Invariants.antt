use Rattle.std.proofs.Common.{◌≡◌, ◌+◌, ◌<◌, ℕ, length, take}
use Rattle.std.specs.List.{flat_map, AllByRecursion}
use Rattle.op_codec.specs.Spelling.{limit, capped, component, IsComponent}
use Rattle.op_codec.proofs.measure.Meter.add_components.Given as goal

abbrev pub invariant-loop-component : goal.invariant-loop-component
invariant-loop-component l = record {
  size : (n : ℕ) → l.fn.self.size ≡ capped n → l.self.size ≡ capped (n + 4 + length (flat_map component (take l.component-index l.components)));
  short : length (flat_map component l.components) < limit → AllByRecursion IsComponent (take l.component-index l.components);
}
