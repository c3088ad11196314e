use Rattle.std.proofs.Common.{◌-◌, sym, subst, ap, ◌∙◌}
use Rattle.wavelet_op.specs.Acts.{inserted, meanings}
use Rattle.wavelet_op.specs.Deltas.{DeltaOf}
use Rattle.wavelet_op.specs.States.{run}
use Rattle.wavelet_state.specs.Drafts.{IsOutcome}
use Rattle.delta_history.specs.Points.{acts_of}
use Rattle.client_control.specs.Parts.{Parts, parts}
use Rattle.client_control.proofs.Receipts.{IsOwnFlight, own_kept}
use Rattle.client_control.proofs.follower.Follower.receive_own.Goals as goal

pub invariant_of-self-in-None : goal.invariant_of-self-in-None
invariant_of-self-in-None c =
    let i = c.self.inside in
    let p : Parts = parts i.name i.author i.client i.at i.count i.state i.flight i.queue.items i.next in
    let d = c.args.delta.now in
    let goes = ap (λ (z : DeltaOf). run i.state (acts_of z)) (sym c.delta.view_is) ∙ subst (λ o. IsOutcome i.state (meanings c.delta.inside.ops) o c.try_delta.new.state) c.in-None.is c.in_ok-try_delta.ensures.outcome in
    let own = subst (λ (z : Parts). IsOwnFlight z.flight d) (sym c.self.view_is) c.requires.own in
    let count = ap (λ n. i.held - n) (c.inserted.ensures.value ∙ ap (λ (z : DeltaOf). inserted (acts_of z)) c.delta.view_is) in
    own_kept p d c.in-Some.step c.try_delta.new.state i.held (i.held - c.inserted.result) i.shown c.self.invariant c.in-Some.ensures goes own count
