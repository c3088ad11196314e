use Rattle.std.proofs.Common.{List, sym, subst}
use Rattle.wavelet_op.specs.Acts.{AreStructuredActs}
use Rattle.wavelet_op.specs.Deltas.{DeltaOf}
use Rattle.wavelet_op.specs.declared.op.WaveletOp.{WaveletOp}
use Rattle.wavelet_op.proofs.Partial.{both}
use Rattle.delta_history.specs.Points.{acts_of}
use Rattle.follower_rules.specs.Receiving.{over}
use Rattle.client_control.specs.Parts.{Parts, follower_of, ops_flying, IsKept}
use Rattle.client_control.specs.Steps.{AreStructured}
use Rattle.client_control.proofs.Pending.{pending_structured}
use Rattle.client_control.proofs.Receipts.{unstructured_same}
use Rattle.client_control.proofs.follower.Follower.pass.Goals as goal

pub returns-then-not-is_structured : goal.returns-then-not-is_structured
returns-then-not-is_structured c =
    let f = follower_of c.args.self.now in
    let d = c.args.delta.now in
    unstructured_same f d (over f.flight f.queue (acts_of d)) (λ s. both (c.is_structured.ensures.1 (subst (λ (z : DeltaOf). AreStructuredActs (acts_of z)) (sym c.delta.view_is) s)) c.if-not-is_structured.true)

pub pass_over-requires-clause-flight : goal.pass_over-requires-clause-flight
pass_over-requires-clause-flight c =
    let k = subst (λ (p : Parts). IsKept p c.self.inside.held c.self.inside.shown) c.self.view_is c.self.invariant in
    subst (λ (p : Parts). AreStructured (ops_flying p.flight)) (sym c.self.view_is) (pending_structured c.args.self.now k.sound.shown k.sound.is_shown).0

pub pass_over-requires-clause-queue : goal.pass_over-requires-clause-queue
pass_over-requires-clause-queue c =
    let k = subst (λ (p : Parts). IsKept p c.self.inside.held c.self.inside.shown) c.self.view_is c.self.invariant in
    let queue = subst (λ (p : Parts). AreStructured p.queue) (sym c.self.view_is) (pending_structured c.args.self.now k.sound.shown k.sound.is_shown).1 in
    subst (λ (z : List (List WaveletOp)). AreStructured z) (sym c.as_slice.ensures.value) queue
