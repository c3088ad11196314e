use Rattle.std.proofs.Common.{◌≡◌, ◌∙◌, arith}
use Rattle.doc_op.specs.Actions.{actions}
use Rattle.doc_op.specs.Cursors.{left}
use Rattle.op_compose.specs.Compose.{compose}
use Rattle.op_compose.specs.Steps.{together}
use Rattle.op_compose.proofs.Steps.{all_room, ended, composed}
use Rattle.op_compose.proofs.Touches.{any_key}
use Rattle.op_compose.proofs.composition.weave_over.Goals as goal

pub walk-init : goal.walk-init
walk-init c =
    let same : together (left c.in_ok-f.f) (left c.in_ok-s.s) ≡ together (actions c.args.first.now) (actions c.args.second.now) = λ i. together (c.in_ok-f.ensures i) (c.in_ok-s.ensures i) in
    record {
      is = c.new-done.ensures.start (left c.in_ok-f.f) (left c.in_ok-s.s) ∙ (λ i. compose (c.in_ok-f.ensures i) (c.in_ok-s.ensures i));
      room = all_room c.new-done.result (left c.in_ok-f.f) (left c.in_ok-s.s) c.new-done.ensures.out c.new-done.ensures.place (omega (arith, same, c.requires));
      in_step = any_key c.new-done.result c.in_ok-f.f.under c.in_ok-s.s.under c.new-done.ensures.touched;
    }

pub returns-then-not-more : goal.returns-then-not-more
returns-then-not-more c =
    let h = ended _ _ _ _ _ _ _ c.if-not-more.true c.in-Ok.ensures in
    composed c.args.first.now c.args.second.now c.in_ok-finish-in-Ok.field-0 c.walk.done c.step.new.done (left c.walk.f) (left c.walk.s) c.walk.invariant.is h.0 h.1 h.2 c.in_ok-finish-in-Ok.ensures.actions c.in_ok-finish-in-Ok.ensures.normal
