use Rattle.std.proofs.Common.{sym, ap, subst, ◌∙◌}
use Rattle.wavelet_op.specs.Acts.{meanings}
use Rattle.wavelet_op.specs.Deltas.{DeltaOf}
use Rattle.wavelet_op.specs.States.{run}
use Rattle.delta_history.specs.Histories.{HistoryOf, head_of}
use Rattle.delta_history.specs.Points.{Point, acts_of}
use Rattle.delta_history.specs.Pushes.{IsInvalid}
use Rattle.delta_history.proofs.Pushes.{ready_step, not_run, same_head}
use Rattle.delta_history.proofs.history.History.prepare.Goals as goal

pub returns-in-Ok-clause-ready : goal.returns-in-Ok-clause-ready
returns-in-Ok-clause-ready c =
    let asked = c.in_ok-written.ensures.asked in
    let step = c.in_ok-written.ensures.written.step in
    let head = ap (λ (h : HistoryOf). (head_of h).state) (sym c.self.view_is) ∙ ap (λ (p : Point). p.state) (sym (same_head c.self.inside.log c.reserve.new.self c.reserve.ensures.same)) ∙ c.in_ok-state.ensures.value in
    let goes = ap (λ (d : DeltaOf). run c.in_ok-state.state (acts_of d)) (sym c.delta.view_is) ∙ c.in-Ok.ensures.ok in
    ready_step c.args.self.now c.args.delta c.in_ok-written.written.step c.in_ok-state.state c.applied.new.state c.step.ensures.legal asked step head goes

pub returns-in-Err-clause-refused : goal.returns-in-Err-clause-refused
returns-in-Err-clause-refused c =
    let asked = c.in_ok-written.ensures.asked in
    let head = ap (λ (h : HistoryOf). (head_of h).state) (sym c.self.view_is) ∙ ap (λ (p : Point). p.state) (sym (same_head c.self.inside.log c.reserve.new.self c.reserve.ensures.same)) ∙ c.in_ok-state.ensures.value in
    let why = subst (λ s. IsInvalid s (meanings c.delta.inside.ops) c.in-Err.fault) (sym head) c.in-Err.ensures.refused in
    not_run c.args.self.now c.args.delta c.in-Err.fault asked.fitting (subst (λ (d : DeltaOf). IsInvalid (head_of c.args.self.now).state (acts_of d) c.in-Err.fault) c.delta.view_is why)
