use Rattle.std.proofs.Common.{◌≡◌, [], take, drop}
use Rattle.doc_items.specs.Changes.{change_set}
use Rattle.doc_op.specs.Actions.{running, actions, actions_from}
use Rattle.op_validity.specs.Sources.{ahead}
use Rattle.op_validity.specs.Walks.{Gives}
use Rattle.op_validity.proofs.validity.rebuilt.Given as goal

abbrev pub invariant-loop-component : goal.invariant-loop-component
invariant-loop-component l = record {
  track : change_set l.track ≡ running (take l.component-index l.component-items);
  gives : Gives l.fn.document [] (actions l.component-items) (ahead l.build.rest) l.build.items.items (actions_from (running (take l.component-index l.component-items)) (drop l.component-index l.component-items));
}
