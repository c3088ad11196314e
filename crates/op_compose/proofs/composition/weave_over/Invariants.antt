use Rattle.std.proofs.Common.{◌≡◌, length, ◌+◌}
use Rattle.doc_op.specs.Actions.{actions}
use Rattle.doc_op.specs.Cursors.{left}
use Rattle.op_compose.specs.Compose.{compose}
use Rattle.op_compose.specs.Weaves.{expects, IsInStep}
use Rattle.op_compose.specs.Steps.{HasAllRoom}
use Rattle.op_compose.proofs.composition.weave_over.Given as goal

abbrev pub invariant-walk : goal.invariant-walk
invariant-walk l = record {
  is : expects l.done (left l.f) (left l.s) ≡ compose (actions l.fn.first) (actions l.fn.second);
  room : HasAllRoom l.done (left l.f) (left l.s);
  in_step : IsInStep l.done l.f.under l.s.under;
}

abbrev pub decreases-walk : goal.decreases-walk
decreases-walk l = length (left l.f) + length (left l.s)
