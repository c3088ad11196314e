use Rattle.std.proofs.Common.{◌≡◌, ◌+◌, ◌≤◌, ◌++◌, take, drop, vec_capacity}
use Rattle.doc_rope.proofs.piece.take_away.Given as goal

abbrev pub invariant-loop : goal.invariant-loop
invariant-loop l = record {
  items : l.items.items ≡ take l.at l.initial.items.items ++ drop (l.at + l.counter) l.initial.items.items;
  room : vec_capacity l.initial.items ≤ vec_capacity l.items;
}
