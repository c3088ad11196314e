use Rattle.std.proofs.Common.{List, Option, sym, subst, ap, ◌∙◌, ◌++◌, ◌≤◌, map}
use Rattle.std.specs.Option.{option_to_list}
use Rattle.wavelet_op.specs.Acts.{meanings}
use Rattle.wavelet_op.specs.Deltas.{DeltaOf}
use Rattle.wavelet_op.specs.States.{State, run}
use Rattle.wavelet_op.specs.declared.op.WaveletOp.{WaveletOp}
use Rattle.wavelet_state.specs.Snapshots.{max_inserted}
use Rattle.wavelet_state.specs.Drafts.{IsOutcome}
use Rattle.delta_history.specs.Points.{acts_of}
use Rattle.follower_rules.specs.Followers.{inserted_all}
use Rattle.client_control.specs.declared.flight.InFlight.{InFlight}
use Rattle.client_control.specs.Parts.{Parts, parts, with_ops, IsKept}
use Rattle.client_control.specs.Steps.{IsOver}
use Rattle.client_control.proofs.Matches.{some_of}
use Rattle.client_control.proofs.Receipts.{parts_after, IsMovedOn, other_room, other_kept}
use Rattle.client_control.proofs.follower.Follower.receive_other.Goals as goal

pub inserted_all-self-inside-requires : goal.inserted_all-self-inside-requires
inserted_all-self-inside-requires c =
    let i = c.self.inside in
    let p : Parts = parts i.name i.author i.client i.at i.count i.state i.flight i.queue.items i.next in
    let d = c.args.delta.now in
    let o = c.in-Some-2.passed in
    let goes = ap (λ (z : DeltaOf). run i.state (acts_of z)) (sym c.delta.view_is) ∙ subst (λ o. IsOutcome i.state (meanings c.delta.inside.ops) o c.try_delta.new.state) c.in-None.is c.in_ok-try_delta.ensures.outcome in
    let over = subst (λ (z : Parts). IsOver z.flight z.queue d.ops o) (sym c.self.view_is) (some_of _ _ c.in_ok-passed.field-0 o c.in-Some-2.is c.in_ok-passed.ensures) in
    subst (λ (z : List (List WaveletOp)). inserted_all (map meanings (option_to_list o.flight ++ z)) ≤ max_inserted) (sym c.as_slice.ensures.value) (other_room p d c.in-Some.step c.try_delta.new.state o c.self.invariant.sound c.in-Some.ensures goes over)

pub invariant_of-self-in-None-branch-4 : goal.invariant_of-self-in-None-branch-4
invariant_of-self-in-None-branch-4 c =
    let i = c.self.inside in
    let p : Parts = parts i.name i.author i.client i.at i.count i.state i.flight i.queue.items i.next in
    let d = c.args.delta.now in
    let o = c.in-Some-2.passed in
    let s = c.in-Some.step in
    let t = c.try_delta.new.state in
    let goes = ap (λ (z : DeltaOf). run i.state (acts_of z)) (sym c.delta.view_is) ∙ subst (λ o. IsOutcome i.state (meanings c.delta.inside.ops) o c.try_delta.new.state) c.in-None.is c.in_ok-try_delta.ensures.outcome in
    let over = subst (λ (z : Parts). IsOver z.flight z.queue d.ops o) (sym c.self.view_is) (some_of _ _ c.in_ok-passed.field-0 o c.in-Some-2.is c.in_ok-passed.ensures) in
    let count = c.inserted_all-self-inside.ensures ∙ ap (λ (z : List (List WaveletOp)). inserted_all (map meanings (option_to_list o.flight ++ z))) c.as_slice.ensures.value in
    let screen = subst (λ (z : Option State). IsMovedOn z o.left c.moved.result) c.take.ensures.value c.moved.ensures in
    let flight = c.flown.ensures ∙ ap (λ (z : Option InFlight). with_ops z o.flight) c.take-in-None.ensures.value in
    subst (λ (z : Option InFlight). IsKept (parts_after p s t z o.queue.items) c.inserted_all-self-inside.result c.moved.result) (sym flight)
    (other_kept p d s t o i.held c.inserted_all-self-inside.result i.shown c.moved.result c.self.invariant c.in-Some.ensures goes over count screen)
