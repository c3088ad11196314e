use Rattle.std.proofs.Common.{refl}
use Rattle.op_invert.proofs.Calls.{is_inverse, whole}
use Rattle.op_invert.proofs.inversion.invert_rope.Goals as goal

pub undo_over-requires : goal.undo_over-requires
undo_over-requires c = whole c.args.op.now c.args.document.now c.args.document.now refl c.in_ok-check_rope.ensures.ok

pub returns-clause-ok : goal.returns-clause-ok
returns-clause-ok c = is_inverse c.args.op.now c.in_ok-undo.undo c.args.document.now c.args.document.now refl c.in_ok-undo.ensures.is c.in_ok-undo.ensures.normal
