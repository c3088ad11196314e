use Rattle.std.proofs.Common.{◌≡◌, ◌+◌, ◌++◌, length}
use Rattle.doc_rope.specs.Pieces.{pieces, total, joined, IsSound, IsPacked}
use Rattle.doc_rope.proofs.gather.gather.Given as goal

abbrev pub invariant-loop-alloc : goal.invariant-loop-alloc
invariant-loop-alloc l = record {
  joined : l.items.items ++ joined (pieces l.tree) ≡ l.initial.items.items;
  count : length l.items.items + total (pieces l.tree) ≡ length l.initial.items.items;
  sound : IsSound l.tree;
  packed : IsPacked (pieces l.tree);
}

abbrev pub decreases-loop-alloc : goal.decreases-loop-alloc
decreases-loop-alloc l = length l.items.items
