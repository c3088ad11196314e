use Rattle.std.proofs.Common.{◌≡◌, length, ◌+◌}
use Rattle.doc_op.specs.Actions.{actions}
use Rattle.doc_op.specs.Cursors.{left}
use Rattle.op_transform.specs.Transform.{transform}
use Rattle.op_transform.specs.Touches.{IsInStep}
use Rattle.op_transform.specs.Walks.{expects}
use Rattle.op_transform.specs.Steps.{HasAllRoom}
use Rattle.op_transform.proofs.both.walk_over.Given as goal

abbrev pub invariant-walk : goal.invariant-walk
invariant-walk l = record {
  is : expects l.done (left l.l) (left l.e) ≡ transform (actions l.fn.later) (actions l.fn.earlier);
  room : HasAllRoom l.done (left l.l) (left l.e);
  in_step : IsInStep l.done l.l.under l.e.under;
}

abbrev pub decreases-walk : goal.decreases-walk
decreases-walk l = length (left l.l) + length (left l.e)
