use Rattle.std.proofs.Common.{◌≡◌, ◌+◌, ◌≤◌, ◌++◌, length, take, drop, vec_capacity}
use Rattle.doc_rope.proofs.piece.move_into.Given as goal

abbrev pub invariant-loop-item : goal.invariant-loop-item
invariant-loop-item l = record {
  front : take l.at l.to.items ≡ take l.at l.initial.to.items;
  rest : l.from.items ++ drop l.at l.to.items ≡ l.initial.from.items ++ drop l.at l.initial.to.items;
  at : l.at ≤ length l.to.items;
  room : length l.to.items + length l.from.items ≤ vec_capacity l.to;
  to_room : vec_capacity l.initial.to ≤ vec_capacity l.to;
  from_room : vec_capacity l.initial.from ≤ vec_capacity l.from;
}

abbrev pub decreases-loop-item : goal.decreases-loop-item
decreases-loop-item l = length l.from.items
