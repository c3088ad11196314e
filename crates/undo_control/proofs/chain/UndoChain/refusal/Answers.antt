use Rattle.std.proofs.Common.{◌≡◌, sym, ap, subst, ◌∙◌, Some}
use Rattle.wavelet_op.specs.Acts.{meanings}
use Rattle.wavelet_op.specs.States.{State, run}
use Rattle.undo_control.specs.Parts.{Chain, IsKept}
use Rattle.undo_control.proofs.Kept.{unchanged}
use Rattle.undo_control.proofs.chain.UndoChain.refusal.Goals as goal

pub returns-in-Ok-apply_delta : goal.returns-in-Ok-apply_delta
returns-in-Ok-apply_delta c =
    let acts = meanings c.args.ops.now in
    let goes : run c.args.self.now.state acts ≡ Some c.apply_delta.new.state = ap (λ (z : Chain). run z.state acts) (sym c.self.view_is) ∙ ap (λ (s : State). run s acts) (sym c.in-Ok.ensures) ∙ c.in-Ok-apply_delta.ensures.ok in
    unchanged c.args.self.now c.apply_delta.new.state acts (subst IsKept c.self.view_is c.self.invariant) goes c.requires
