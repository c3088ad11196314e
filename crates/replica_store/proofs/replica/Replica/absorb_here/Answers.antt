use Rattle.std.proofs.Common.{◌≡◌, false, Err, sym, ap, subst}
use Rattle.wavelet_op.specs.Deltas.{DeltaOf}
use Rattle.delta_history.specs.Histories.{IsGrown}
use Rattle.delta_history.specs.Legal.{has_id}
use Rattle.delta_history.specs.Pushes.{IsRefused}
use Rattle.peer_turns.specs.declared.absorbed.Absorbed.TheVariants.{NotLegal}
use Rattle.replica_store.specs.Absorbing.{absorbed}
use Rattle.replica_store.specs.Copies.{CopyOf, copy}
use Rattle.replica_store.proofs.Absorbs.{absorbed_illegal}
use Rattle.replica_store.proofs.Sound.{sound_took, sound_as}
use Rattle.replica_store.proofs.replica.Replica.absorb_here.Goals as goal

pub invariant_of-self : goal.invariant_of-self
invariant_of-self c =
    let before : CopyOf = copy c.self.inside.history c.self.inside.waiting.items c.self.inside.noted.items c.self.inside.dropped in
    let after = c.push_copy.new.history in
    let grown = subst (λ (d : DeltaOf). IsGrown before.history d after) (sym c.delta.view_is) c.in-Ok.ensures.grown in
    let new = subst (λ (d : DeltaOf). has_id d.id before.history.deltas ≡ false) (sym c.delta.view_is) c.in-Ok.ensures.next.new in
    sound_as after _ _ _ _ _ c.settle.ensures c.forget.ensures (sound_took before after _ _ c.self.invariant grown new)

pub returns-in-Err-NotLegal-clause-answer : goal.returns-in-Err-NotLegal-clause-answer
returns-in-Err-NotLegal-clause-answer c =
    let before : CopyOf = copy c.self.inside.history c.self.inside.waiting.items c.self.inside.noted.items c.self.inside.dropped in
    let refused = subst (IsRefused before.history c.args.delta.now) c.in-Err-NotLegal.field-0-is c.in-Err-NotLegal.ensures.refused in
    let normal = c.in-Err-NotLegal.ensures.normal (ap Err c.in-Err-NotLegal.field-0-is) in
    let answer = absorbed_illegal before c.args.delta.now refused.0 c.push_copy.ensures.legal normal refused.1 in
    subst (λ (v : CopyOf). NotLegal ≡ absorbed v c.args.delta.now) c.self.view_is (sym answer)
