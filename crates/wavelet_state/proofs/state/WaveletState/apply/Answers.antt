use Rattle.std.proofs.Common.{ap, subst, ◌≡◌, ◌∙◌}
use Rattle.wavelet_op.specs.Acts.{meaning}
use Rattle.wavelet_op.specs.States.{State, apply_act}
use Rattle.wavelet_state.specs.Drafts.{whole}
use Rattle.wavelet_state.specs.Inverses.{inverse_act, acts_back, led}
use Rattle.wavelet_state.specs.Parts.{IsStepFault}
use Rattle.wavelet_state.proofs.Drafts.{trimmed_is}
use Rattle.wavelet_state.proofs.Parts.{ok_to}
use Rattle.wavelet_state.proofs.state.WaveletState.apply.Goals as goal

pub returns-in-Err-clause-refused : goal.returns-in-Err-clause-refused
returns-in-Err-clause-refused c =
    let before = ap (whole c.self.inside.draft.roles) (trimmed_is c.self.inside.draft.documents c.self.invariant) ∙ c.self.view_is in
    subst (λ (s : State). IsStepFault 0 (apply_act s (meaning c.args.op.now)) c.in-Err.invalid) before c.in-Err.ensures.refused

pub returns-clause-back : goal.returns-clause-back
returns-clause-back c =
    let before = ap (whole c.self.inside.draft.roles) (trimmed_is c.self.inside.draft.documents c.self.invariant) ∙ c.self.view_is in
    ok_to c.step.result (λ _. subst (λ (s : State). acts_back c.keep_inverse.new.kept ≡ led (inverse_act s (meaning c.args.op.now)) (acts_back c.args.back.now)) before c.in_default.ensures.ok) c.step.ensures.ok
