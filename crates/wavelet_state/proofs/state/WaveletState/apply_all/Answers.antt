use Rattle.std.proofs.Common.{◌≡◌, Some, sym, ap, subst, ◌∙◌}
use Rattle.wavelet_op.specs.Acts.{meanings}
use Rattle.wavelet_op.specs.States.{State, run}
use Rattle.wavelet_state.specs.Drafts.{whole, IsRefused}
use Rattle.wavelet_state.specs.Inverses.{inverse_acts, acts_back, led}
use Rattle.wavelet_state.proofs.Drafts.{trimmed_is}
use Rattle.wavelet_state.proofs.state.WaveletState.apply_all.Goals as goal

pub returns-in-Ok-clause-ok : goal.returns-in-Ok-clause-ok
returns-in-Ok-clause-ok c =
    let before = ap (whole c.self.inside.draft.roles) (trimmed_is c.self.inside.draft.documents c.self.invariant) ∙ c.self.view_is in
    ap (λ s. run s (meanings c.args.ops.now)) (sym before) ∙ c.in-Ok.ensures.ok
    ∙ ap (λ d. Some (whole c.run.new.self.roles d)) (trimmed_is c.run.new.self.documents (λ q. c.in-Ok.ensures.trim q (c.self.invariant q)))

pub returns-in-Err-clause-refused : goal.returns-in-Err-clause-refused
returns-in-Err-clause-refused c =
    let before = ap (whole c.self.inside.draft.roles) (trimmed_is c.self.inside.draft.documents c.self.invariant) ∙ c.self.view_is in
    subst (λ (s : State). IsRefused s (meanings c.args.ops.now) c.in-Err.fault) before c.in-Err.ensures.refused

pub returns-in-Ok-clause-back : goal.returns-in-Ok-clause-back
returns-in-Ok-clause-back c =
    let before = ap (whole c.self.inside.draft.roles) (trimmed_is c.self.inside.draft.documents c.self.invariant) ∙ c.self.view_is in
    subst (λ (s : State). acts_back c.run.new.back ≡ led (inverse_acts s (meanings c.args.ops.now)) (acts_back c.args.back.now)) before c.in-Ok.ensures.back
