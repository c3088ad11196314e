use Rattle.std.proofs.Common.{◌≡◌, ◌+◌, ◌≤◌}
use Rattle.doc_items.specs.Balance.{BalancedFrom}
use Rattle.op_build.specs.Edits.{range}
use Rattle.op_build.proofs.erasure.is_balanced.Given as goal

abbrev pub invariant-loop-left : goal.invariant-loop-left
invariant-loop-left g l = record {
  to : BalancedFrom l.depth (range (g.D.Items.items l.document) l.place l.left) → BalancedFrom 0 (range (g.D.Items.items l.document) l.fn.from l.fn.count);
  from : BalancedFrom 0 (range (g.D.Items.items l.document) l.fn.from l.fn.count) → BalancedFrom l.depth (range (g.D.Items.items l.document) l.place l.left);
  low : l.depth + l.left ≤ l.fn.count;
  place : l.place + l.left ≡ l.fn.from + l.fn.count;
}

abbrev pub decreases-loop-left : goal.decreases-loop-left
decreases-loop-left g l = l.left
