use Rattle.std.proofs.Common.{◌+◌, ◌≤◌, List, ◌++◌, length, replicate}
use Rattle.doc_items.specs.Limits.{max_count}
use Rattle.doc_items.specs.Changes.{change_set}
use Rattle.doc_op.specs.Actions.{Action, keep}
use Rattle.op_validity.specs.Sources.{ahead}
use Rattle.op_validity.specs.Walks.{Same}
use Rattle.op_validity.proofs.walk.Walk.keep_each.Given as goal

abbrev pub invariant-loop-left : goal.invariant-loop-left
invariant-loop-left l = record {
  same : (more : List Action) → Same l.fn.self.place (ahead l.fn.self.rest) (replicate l.fn.count (keep (change_set l.fn.running)) ++ more) l.self.place (ahead l.self.rest) (replicate l.left (keep (change_set l.fn.running)) ++ more);
  bound : l.self.place + length (ahead l.self.rest) ≤ max_count;
}

abbrev pub decreases-loop-left : goal.decreases-loop-left
decreases-loop-left l = l.left
