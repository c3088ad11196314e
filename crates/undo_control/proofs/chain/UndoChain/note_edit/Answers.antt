use Rattle.std.proofs.Common.{◌<◌, ◌∷◌, length, take, sym, ap, ap₂, subst, ◌∙◌}
use Rattle.wavelet_op.specs.Acts.{meanings}
use Rattle.wavelet_op.specs.Deltas.{is_count}
use Rattle.undo_control.specs.Chains.{max_entries, edited}
use Rattle.undo_control.specs.Parts.{Chain, chain_of}
use Rattle.undo_control.proofs.Kept.{as_entry, no_entry, edit_takes, edit_empties}
use Rattle.undo_control.proofs.chain.UndoChain.note_edit.Goals as goal

pub invariant_of-self-in-Some : goal.invariant_of-self-in-Some
invariant_of-self-in-Some c =
    let x = as_entry c.in-Ok.back c.in-Some.entry c.into_ops.result (is_count (length c.in-Ok.back)) c.into_ops.ensures.value c.in-Some.is in
    let is = edit_takes c.self.inside.state c.apply_inverting.new.state c.args.ops.now c.in-Ok.back c.self.inside.entries.items c.put_first.new.entries.items c.self.invariant
    c.in-Ok.ensures.ok c.in-Ok.ensures.value c.in-Ok.ensures.back c.in-Ok.ensures.normal x.0 (c.put_first.ensures ∙ ap₂ (λ z es. take max_entries (z ∷ es)) x.1 c.reserve.ensures.items) in
    is.kept

pub returns-in-Some-clause-ok : goal.returns-in-Some-clause-ok
returns-in-Some-clause-ok c =
    let x = as_entry c.in-Ok.back c.in-Some.entry c.into_ops.result (is_count (length c.in-Ok.back)) c.into_ops.ensures.value c.in-Some.is in
    let is = edit_takes c.self.inside.state c.apply_inverting.new.state c.args.ops.now c.in-Ok.back c.self.inside.entries.items c.put_first.new.entries.items c.self.invariant
    c.in-Ok.ensures.ok c.in-Ok.ensures.value c.in-Ok.ensures.back c.in-Ok.ensures.normal x.0 (c.put_first.ensures ∙ ap₂ (λ z es. take max_entries (z ∷ es)) x.1 c.reserve.ensures.items) in
    ap (λ (z : Chain). edited (chain_of z) (meanings c.args.ops.now)) (sym c.self.view_is) ∙ is.is

pub returns-in-None-clause-ok : goal.returns-in-None-clause-ok
returns-in-None-clause-ok c =
    let n = no_entry c.in-Ok.back c.into_ops.result (is_count (length c.in-Ok.back)) c.into_ops.ensures.value c.in-None.is in
    let some = subst (λ k. 0 < k) c.len-count.ensures.value c.len-count.ensures.some in
    let is = edit_empties c.self.inside.state c.apply_inverting.new.state c.args.ops.now c.in-Ok.back c.self.inside.entries.items c.clear.new.self.items some c.in-Ok.ensures.ok c.in-Ok.ensures.value n c.clear.ensures.items in
    ap (λ (z : Chain). edited (chain_of z) (meanings c.args.ops.now)) (sym c.self.view_is) ∙ is.is
