use Rattle.std.proofs.Common.{◌≡◌, ◌≤◌, ◌++◌, take, vec_capacity}
use Rattle.doc_rope.proofs.piece.copy_items.Given as goal

abbrev pub invariant-loop-item : goal.invariant-loop-item
invariant-loop-item l = record {
  items : l.to.items ≡ l.initial.to.items ++ take l.item-index l.items;
  room : vec_capacity l.initial.to ≤ vec_capacity l.to;
}
