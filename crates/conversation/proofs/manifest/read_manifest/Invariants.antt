use Rattle.std.proofs.Common.{◌≡◌, ◌≤◌, ◌++◌, drop}
use Rattle.conversation.specs.Trees.{tree, thread_tree}
use Rattle.conversation.proofs.manifest.read_manifest.Given as goal

abbrev pub invariant-loop-place : goal.invariant-loop-place
invariant-loop-place g l = record {
  shown : l.nodes.items ++ tree l.reading (drop l.place (g.D.Items.items l.manifest)) ≡ thread_tree (g.D.Items.items l.manifest);
  inside : l.reading.inside ≤ l.place;
  passed : l.reading.passed ≤ l.place;
}
