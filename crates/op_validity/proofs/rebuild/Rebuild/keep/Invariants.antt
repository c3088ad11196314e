use Rattle.std.proofs.Common.{List, ◌++◌, replicate}
use Rattle.doc_items.specs.Changes.{change_set}
use Rattle.doc_op.specs.Actions.{Action, keep}
use Rattle.op_validity.specs.Sources.{ahead}
use Rattle.op_validity.specs.Walks.{Gives, IsNoted}
use Rattle.op_validity.proofs.rebuild.Rebuild.keep.Given as goal

abbrev pub invariant-loop-left : goal.invariant-loop-left
invariant-loop-left l = record {
  gives : (more : List Action) → Gives (ahead l.fn.self.rest) l.fn.self.items.items (replicate l.fn.count (keep (change_set l.fn.running)) ++ more) (ahead l.self.rest) l.self.items.items (replicate l.left (keep (change_set l.fn.running)) ++ more);
  noted : IsNoted (change_set l.fn.running) l.last;
}

abbrev pub decreases-loop-left : goal.decreases-loop-left
decreases-loop-left l = l.left
