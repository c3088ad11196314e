use Rattle.doc_op.specs.Cursors.{left}
use Rattle.op_transform.proofs.Steps.{ended, transformed}
use Rattle.op_transform.proofs.both.walk_over.Goals as goal

pub returns-then-not-more : goal.returns-then-not-more
returns-then-not-more c =
    let h = ended _ _ _ _ _ _ _ c.if-not-more.true c.in-Ok.ensures in
    transformed c.args.later.now c.args.earlier.now c.walk.done (left c.walk.l) (left c.walk.e) c.step.new.done c.in_ok-finish-in-Ok.field-0 c.requires.later c.requires.earlier c.walk.invariant.is h.0 h.1 h.2 c.in_ok-finish-in-Ok.ensures
