use Rattle.std.proofs.Common.{◌≡◌, ◌+◌, ◌≤◌, ◌++◌, length, vec_capacity, reverse}
use Rattle.doc_rope.proofs.piece.move_tail.Given as goal

abbrev pub invariant-loop-from : goal.invariant-loop-from
invariant-loop-from l = record {
  same : l.from.items ++ reverse l.to.items ≡ l.initial.from.items;
  at_most : l.at ≤ length l.from.items;
  lengths : length l.from.items + length l.to.items ≡ length l.initial.from.items;
  from_room : vec_capacity l.initial.from ≤ vec_capacity l.from;
  to_room : vec_capacity l.initial.to ≤ vec_capacity l.to;
}

abbrev pub decreases-loop-from : goal.decreases-loop-from
decreases-loop-from l = length l.from.items
