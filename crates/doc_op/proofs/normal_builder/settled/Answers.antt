use Rattle.std.proofs.Common.{subst}
use Rattle.change_view.proofs.Sets.{same_changes-is}
use Rattle.change_table.specs.Joints.{IsTurn}
use Rattle.doc_op.specs.Outputs.{open_component}
use Rattle.doc_op.proofs.Outputs.{settled_same}
use Rattle.doc_op.proofs.normal_builder.settled.Goals as goal

pub returns-in-None-clause-settled : goal.returns-in-None-clause-settled
returns-in-None-clause-settled c w h =
    settled_same c.args.done (open_component c.args.last) c.args.written w c.in_ok-done.done c.in_ok-done.ensures.value c.in_ok-done.ensures.runs c.requires.runs (subst (λ t. IsTurn t c.args.written w) c.in-None.is h)

pub returns-in-None-clause-written : goal.returns-in-None-clause-written
returns-in-None-clause-written c w h = same_changes-is c.args.written w (subst (λ t. IsTurn t c.args.written w) c.in-None.is h)
