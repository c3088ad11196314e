use Rattle.std.proofs.Common.{◌≡◌, ◌+◌, ◌<◌, ℕ, length, take}
use Rattle.std.specs.List.{flat_map, AllByRecursion}
use Rattle.op_codec.specs.Spelling.{limit, capped, text, IsText}
use Rattle.op_codec.proofs.measure.Meter.add_keys.Given as goal

abbrev pub invariant-loop-key : goal.invariant-loop-key
invariant-loop-key l = record {
  size : (n : ℕ) → l.fn.self.size ≡ capped n → l.self.size ≡ capped (n + 4 + length (flat_map text (take l.key-index l.keys)));
  short : length (flat_map text l.keys) < limit → AllByRecursion IsText (take l.key-index l.keys);
}
