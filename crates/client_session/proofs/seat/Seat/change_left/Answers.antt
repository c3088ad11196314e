use Rattle.std.proofs.Common.{List, sym, subst, ◌∙◌}
use Rattle.wavelet_op.specs.declared.op.WaveletOp.{WaveletOp}
use Rattle.client_control.specs.Steps.{AreStructured}
use Rattle.client_session.proofs.Seating.{pending_all}
use Rattle.client_session.proofs.seat.Seat.change_left.Goals as goal

pub rebase-requires-clause-entries : goal.rebase-requires-clause-entries
rebase-requires-clause-entries c = subst (λ (es : List (List WaveletOp)). AreStructured es) (sym (c.as_slice.ensures.value ∙ c.in_ok-entries.ensures)) (pending_all c.args.self.now.follower c.state-state.ensures.sound)
