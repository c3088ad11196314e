use Rattle.std.proofs.Common.{◌≡◌, take}
use Rattle.doc_items.proofs.change.Changes.copy.Given as goal

abbrev pub invariant-loop-change : goal.invariant-loop-change
invariant-loop-change l = l.list.items ≡ take l.change-index l.change-items
