use Rattle.std.proofs.Common.{◌≡◌, ◌≤◌, take, drop}
use Rattle.doc_op.specs.Actions.{running}
use Rattle.doc_op.specs.Structure.{first_break, first_break_from}
use Rattle.doc_op.proofs.op.DocOp.first_break.Given as goal

abbrev pub invariant-loop-index : goal.invariant-loop-index
invariant-loop-index l = record {
  same : first_break l.component-items ≡ first_break_from l.index l.depths (running (take l.index l.component-items)) (drop l.index l.component-items);
  inserted : l.depths.inserted ≤ l.index;
  deleted : l.depths.deleted ≤ l.index;
}
