use Rattle.std.proofs.Common.{IfSome, sym, ap, subst, ◌∙◌}
use Rattle.wavelet_op.specs.Acts.{meanings}
use Rattle.wavelet_op.specs.Deltas.{DeltaOf}
use Rattle.wavelet_op.specs.States.{run}
use Rattle.delta_history.specs.Histories.{HistoryOf, head_of}
use Rattle.delta_history.specs.Points.{Point, acts_of}
use Rattle.delta_history.specs.Pushes.{IsReady, IsInvalid}
use Rattle.delta_history.specs.Twins.{IsTwin}
use Rattle.delta_history.proofs.Pushes.{ready_step, not_run, moved, moved_end, grown_end}
use Rattle.delta_history.proofs.history.History.push_step.Goals as goal

pub push-requires-clause-next : goal.push-requires-clause-next
push-requires-clause-next c =
    let asked = c.requires.asked in
    let step = c.requires.step in
    let head = ap (λ (h : HistoryOf). (head_of h).state) (sym c.self.view_is) ∙ c.self.invariant.state in
    let goes = ap (λ (d : DeltaOf). run c.self.inside.state (acts_of d)) (sym c.delta.view_is) ∙ c.in-Ok.ensures.ok in
    let end : Point = record { at = c.args.step.to; state = c.applied.new.state; count = c.args.step.inserted } in
    let ready = ready_step c.args.self.now c.args.delta c.args.step c.self.inside.state c.applied.new.state c.requires.legal asked step head goes in
    let here = subst (λ (h : HistoryOf). IsReady h c.args.delta end) (sym c.self.view_is) ready in
    moved c.self.inside.log c.reserve.new.self c.args.delta c.reserve.ensures.same here.next

pub push-requires-clause-head : goal.push-requires-clause-head
push-requires-clause-head c =
    let asked = c.requires.asked in
    let step = c.requires.step in
    let head = ap (λ (h : HistoryOf). (head_of h).state) (sym c.self.view_is) ∙ c.self.invariant.state in
    let goes = ap (λ (d : DeltaOf). run c.self.inside.state (acts_of d)) (sym c.delta.view_is) ∙ c.in-Ok.ensures.ok in
    let end : Point = record { at = c.args.step.to; state = c.applied.new.state; count = c.args.step.inserted } in
    let ready = ready_step c.args.self.now c.args.delta c.args.step c.self.inside.state c.applied.new.state c.requires.legal asked step head goes in
    let here = subst (λ (h : HistoryOf). IsReady h c.args.delta end) (sym c.self.view_is) ready in
    ap (λ (p : Point). p.at) (moved_end c.self.inside.log c.reserve.new.self c.args.delta end c.reserve.ensures.same here.leads)

pub push-requires-clause-inserted : goal.push-requires-clause-inserted
push-requires-clause-inserted c =
    let asked = c.requires.asked in
    let step = c.requires.step in
    let head = ap (λ (h : HistoryOf). (head_of h).state) (sym c.self.view_is) ∙ c.self.invariant.state in
    let goes = ap (λ (d : DeltaOf). run c.self.inside.state (acts_of d)) (sym c.delta.view_is) ∙ c.in-Ok.ensures.ok in
    let end : Point = record { at = c.args.step.to; state = c.applied.new.state; count = c.args.step.inserted } in
    let ready = ready_step c.args.self.now c.args.delta c.args.step c.self.inside.state c.applied.new.state c.requires.legal asked step head goes in
    let here = subst (λ (h : HistoryOf). IsReady h c.args.delta end) (sym c.self.view_is) ready in
    ap (λ (p : Point). p.count) (moved_end c.self.inside.log c.reserve.new.self c.args.delta end c.reserve.ensures.same here.leads)

pub invariant_of-self-in-Ok : goal.invariant_of-self-in-Ok
invariant_of-self-in-Ok c =
    let asked = c.requires.asked in
    let step = c.requires.step in
    let head = ap (λ (h : HistoryOf). (head_of h).state) (sym c.self.view_is) ∙ c.self.invariant.state in
    let goes = ap (λ (d : DeltaOf). run c.self.inside.state (acts_of d)) (sym c.delta.view_is) ∙ c.in-Ok.ensures.ok in
    let end : Point = record { at = c.args.step.to; state = c.applied.new.state; count = c.args.step.inserted } in
    let ready = ready_step c.args.self.now c.args.delta c.args.step c.self.inside.state c.applied.new.state c.requires.legal asked step head goes in
    let here = subst (λ (h : HistoryOf). IsReady h c.args.delta end) (sym c.self.view_is) ready in
    record { state = ap (λ (p : Point). p.state) (grown_end c.self.inside.log c.reserve.new.self c.push.new.self c.args.delta end c.reserve.ensures.same c.push.ensures here.leads); twin = subst (λ o. IfSome o (IsTwin c.push.new.self.name c.push.new.self.deltas)) (sym c.forget.ensures) tt }

pub returns-in-Err-clause-refused : goal.returns-in-Err-clause-refused
returns-in-Err-clause-refused c =
    let asked = c.requires.asked in
    let step = c.requires.step in
    let head = ap (λ (h : HistoryOf). (head_of h).state) (sym c.self.view_is) ∙ c.self.invariant.state in
    let why = subst (λ s. IsInvalid s (meanings c.delta.inside.ops) c.in-Err.fault) (sym head) c.in-Err.ensures.refused in
    not_run c.args.self.now c.args.delta c.in-Err.fault asked.fitting (subst (λ (d : DeltaOf). IsInvalid (head_of c.args.self.now).state (acts_of d) c.in-Err.fault) c.delta.view_is why)
