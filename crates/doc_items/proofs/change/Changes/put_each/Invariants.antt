use Rattle.std.proofs.Common.{◌≡◌, take}
use Rattle.doc_items.specs.Changes.{change_set, put}
use Rattle.doc_items.proofs.change.Changes.put_each.Given as goal

abbrev pub invariant-loop-change : goal.invariant-loop-change
invariant-loop-change l = l.map ≡ put (change_set (take l.change-index l.change-items)) l.fn.map
