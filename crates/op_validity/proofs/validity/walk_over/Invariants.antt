use Rattle.std.proofs.Common.{◌≡◌, ◌+◌, ◌≤◌, length, take, drop}
use Rattle.doc_items.specs.Limits.{max_count}
use Rattle.doc_items.specs.Changes.{change_set}
use Rattle.doc_op.specs.Actions.{running, actions, actions_from}
use Rattle.op_validity.specs.Sources.{ahead}
use Rattle.op_validity.specs.Walks.{Same}
use Rattle.op_validity.proofs.validity.walk_over.Given as goal

abbrev pub invariant-loop-component : goal.invariant-loop-component
invariant-loop-component l = record {
  track : change_set l.track ≡ running (take l.component-index l.component-items);
  same : Same 0 (ahead l.fn.items) (actions l.component-items) l.walk.place (ahead l.walk.rest) (actions_from (running (take l.component-index l.component-items)) (drop l.component-index l.component-items));
  bound : l.walk.place + length (ahead l.walk.rest) ≤ max_count;
}
