use Rattle.std.proofs.Common.{◌≤◌, drop}
use Rattle.doc_items.specs.Balance.{BalancedFrom}
use Rattle.doc_items.proofs.document.Document.is_balanced.Given as goal

abbrev pub invariant-loop-item : goal.invariant-loop-item
invariant-loop-item l = record {
  to : BalancedFrom l.depth (drop l.item-index l.item-items) → BalancedFrom 0 l.item-items;
  from : BalancedFrom 0 l.item-items → BalancedFrom l.depth (drop l.item-index l.item-items);
  low : l.depth ≤ l.item-index;
}
