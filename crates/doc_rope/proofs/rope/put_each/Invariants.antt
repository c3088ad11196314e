use Rattle.std.proofs.Common.{◌≡◌, ◌+◌, ◌<◌, ◌^◌, length}
use Rattle.doc_rope.specs.Pieces.{pieces, joined, total, IsSound, IsPacked}
use Rattle.doc_rope.specs.Replacements.{all_replaced, InOrder, put_in}
use Rattle.doc_rope.proofs.rope.put_each.Given as goal

abbrev pub invariant-loop-next : goal.invariant-loop-next
invariant-loop-next l = record {
  joined : all_replaced l.replacements.items (joined (pieces l.tree)) ≡ all_replaced l.initial.replacements.items (joined (pieces l.initial.tree));
  sound : IsSound l.tree;
  packed : IsPacked (pieces l.tree);
  inside : InOrder 0 l.replacements.items (total (pieces l.tree));
  fits : total (pieces l.tree) + put_in l.replacements.items < 2 ^ 64;
}

abbrev pub decreases-loop-next : goal.decreases-loop-next
decreases-loop-next l = length l.replacements.items
