use Rattle.std.proofs.Common.{◌≡◌, ◌≤◌, ◌+◌, false, [], take, drop}
use Rattle.doc_items.specs.Balance.{BalancedFrom}
use Rattle.conversation.specs.Trees.{start, tree, behind}
use Rattle.conversation.proofs.search.find_root.Given as goal

abbrev pub invariant-loop-place : goal.invariant-loop-place
invariant-loop-place g l = record {
  reading : l.reading ≡ behind start (take l.place (g.D.Items.items l.manifest));
  none : l.reading.found ≡ false;
  outside : l.reading.inside ≡ 0;
  empty : tree start (take l.place (g.D.Items.items l.manifest)) ≡ [];
  balanced : BalancedFrom (l.reading.inside + l.reading.passed) (drop l.place (g.D.Items.items l.manifest));
  passed : l.reading.passed ≤ l.place;
}
