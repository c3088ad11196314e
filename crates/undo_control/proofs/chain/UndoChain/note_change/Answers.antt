use Rattle.std.proofs.Common.{◌≡◌, None, sym, subst}
use Rattle.wavelet_op.specs.Acts.{meanings}
use Rattle.undo_control.specs.Chains.{changed}
use Rattle.undo_control.specs.Parts.{Chain, chain_of, IsPast}
use Rattle.undo_control.proofs.Kept.{change_kept, some_match}
use Rattle.undo_control.proofs.chain.UndoChain.note_change.Goals as goal

pub invariant_of-self-2 : goal.invariant_of-self-2
invariant_of-self-2 c =
    let past = some_match (changed (chain_of c.args.self.now) (meanings c.args.ops.now) ≡ None) (λ es. IsPast (chain_of c.args.self.now) (meanings c.args.ops.now) es.items) c.in_ok-entries.field-0 c.in-Some.entries c.in-Some.is c.in_ok-entries.ensures in
    change_kept c.self.inside.state c.apply_delta.new.state (meanings c.args.ops.now) c.self.inside.entries.items c.in-Some.entries.items c.self.invariant c.in_default-apply_delta.ensures.ok
    (subst (λ (z : Chain). IsPast (chain_of z) (meanings c.args.ops.now) c.in-Some.entries.items) (sym c.self.view_is) past)
