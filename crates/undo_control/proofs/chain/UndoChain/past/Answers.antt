use Rattle.std.proofs.Common.{List, sym, ap, subst, ◌∙◌}
use Rattle.wavelet_op.specs.Acts.{meanings}
use Rattle.wavelet_op.specs.declared.op.WaveletOp.{WaveletOp}
use Rattle.wavelet_op.proofs.Partial.{both}
use Rattle.client_control.specs.Steps.{AreStructured}
use Rattle.undo_control.specs.Parts.{Chain, chain_of}
use Rattle.undo_control.proofs.Kept.{change_none, all_structured, is_past}
use Rattle.undo_control.proofs.chain.UndoChain.past.Goals as goal

pub returns-then-not-is_structured : goal.returns-then-not-is_structured
returns-then-not-is_structured c = change_none (chain_of c.args.self.now) (meanings c.args.ops.now) (λ s. both (c.is_structured.ensures.1 s) c.if-not-is_structured.true)

pub rebase-requires-clause-entries : goal.rebase-requires-clause-entries
rebase-requires-clause-entries c = subst (λ (es : List (List WaveletOp)). AreStructured es) (sym c.as_slice.ensures.value) (all_structured c.self.inside.state c.self.inside.entries.items c.self.invariant)

pub returns-in-Some : goal.returns-in-Some
returns-in-Some c =
    is_past c.args.self.now c.as_slice.result.now c.args.ops.now c.in_ok-ops.ops c.in_ok-rebased.field-0 c.in-Some.rebased c.in-Some.is c.in_ok-rebased.ensures
    (c.as_slice.ensures.value ∙ ap (λ (z : Chain). z.entries) c.self.view_is) c.in_ok-ops.ensures
