use Rattle.std.proofs.Common.{◌≡◌, ◌≤◌, ◌+◌, true, take, drop}
use Rattle.doc_items.specs.Balance.{BalancedFrom}
use Rattle.conversation.specs.Search.{AreWithin}
use Rattle.conversation.specs.Trees.{tree, behind}
use Rattle.conversation.proofs.search.end_behind.Given as goal

abbrev pub invariant-loop-behind : goal.invariant-loop-behind
invariant-loop-behind g l = record {
  reading : l.reading ≡ behind l.begun (take l.behind (drop l.from (g.D.Items.items l.manifest)));
  within : AreWithin l.begun.inside (tree l.begun (take l.behind (drop l.from (g.D.Items.items l.manifest))));
  low : l.begun.inside ≤ l.reading.inside;
  found : l.reading.found ≡ true;
  balanced : BalancedFrom (l.reading.inside + l.reading.passed) (drop (l.from + l.behind) (g.D.Items.items l.manifest));
  inside : l.reading.inside ≤ l.from + l.behind;
  passed : l.reading.passed ≤ l.from + l.behind;
}
