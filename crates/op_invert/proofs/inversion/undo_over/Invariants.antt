use Rattle.std.proofs.Common.{length}
use Rattle.doc_op.specs.Actions.{actions}
use Rattle.doc_op.specs.Cursors.{left}
use Rattle.op_invert.specs.Walks.{items_of}
use Rattle.op_invert.proofs.Steps.{IsOnWay}
use Rattle.op_invert.proofs.inversion.undo_over.Given as goal

abbrev pub invariant-walk : goal.invariant-walk
invariant-walk l = IsOnWay (items_of l.fn.items) (actions l.fn.op) l.done (left l.cursor)

abbrev pub decreases-walk : goal.decreases-walk
decreases-walk l = length (left l.cursor)
