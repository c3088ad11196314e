use Rattle.std.proofs.Common.{◌≡◌, length}
use Rattle.change_table.specs.Keys.{Touches}
use Rattle.doc_op.specs.Actions.{actions_from}
use Rattle.doc_op.specs.Cursors.{IsSoundFrom}
use Rattle.doc_op.proofs.cursor.past_boundaries.Given as goal

abbrev pub invariant-loop-boundary : goal.invariant-loop-boundary
invariant-loop-boundary l = record {
  sound : IsSoundFrom l.running l.rest;
  same : actions_from l.running l.rest ≡ actions_from l.fn.running l.fn.components;
  touched : Touches l.fn.touched l.fn.running l.touched l.running;
}

abbrev pub decreases-loop-boundary : goal.decreases-loop-boundary
decreases-loop-boundary l = length l.rest
