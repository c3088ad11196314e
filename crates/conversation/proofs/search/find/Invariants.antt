use Rattle.std.proofs.Common.{◌≡◌, ◌≤◌, ◌+◌, false, take, drop}
use Rattle.doc_items.specs.Balance.{BalancedFrom}
use Rattle.conversation.specs.Edits.{has}
use Rattle.conversation.specs.Search.{is_wanted}
use Rattle.conversation.specs.Trees.{start, tree, behind}
use Rattle.conversation.proofs.search.find.Given as goal

abbrev pub invariant-loop-place : goal.invariant-loop-place
invariant-loop-place g l = record {
  reading : l.reading ≡ behind start (take l.place (g.D.Items.items l.manifest));
  none : has (is_wanted l.want l.id) (tree start (take l.place (g.D.Items.items l.manifest))) ≡ false;
  balanced : BalancedFrom (l.reading.inside + l.reading.passed) (drop l.place (g.D.Items.items l.manifest));
  inside : l.reading.inside ≤ l.place;
  passed : l.reading.passed ≤ l.place;
}
