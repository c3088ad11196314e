use Rattle.std.proofs.Common.{◌≡◌, take, drop}
use Rattle.doc_items.specs.Changes.{change_set}
use Rattle.doc_op.specs.Actions.{running, actions, actions_from}
use Rattle.op_validity.specs.Edits.{IsAtPlace, MakesAll}
use Rattle.op_validity.proofs.pieces.replacements.Given as goal

abbrev pub invariant-loop-component : goal.invariant-loop-component
invariant-loop-component l = record {
  rope : l.edits.rope.now ≡ l.fn.rope;
  track : change_set l.track ≡ running (take l.component-index l.component-items);
  at : IsAtPlace l.edits;
  makes : MakesAll (actions l.component-items) l.edits (actions_from (running (take l.component-index l.component-items)) (drop l.component-index l.component-items));
}
