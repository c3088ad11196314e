use Rattle.std.proofs.Common.{length, List, sym, ap, subst, ◌∙◌, refl, arith, Some}
use Rattle.doc_items.specs.Balance.{Balanced}
use Rattle.doc_items.specs.declared.item.Item.{Item}
use Rattle.doc_op.specs.Actions.{actions}
use Rattle.doc_op.proofs.Applying.{apply-length, keeps_balance}
use Rattle.doc_op.proofs.Structures.{unbroken_is_structured}
use Rattle.op_validity.proofs.Ways.{valid_parts, valid_is}
use Rattle.op_validity.proofs.pieces.edits_of.Goals as goal

pub returns-clause-ok : goal.returns-clause-ok
returns-clause-ok c =
    let valid = valid_parts c.args.op.now c.args.rope.now c.in_ok-check_rope.ensures.ok in
    valid_is c.args.op.now c.args.rope.now valid.0 valid.1 valid.2 ∙ ap Some (sym (c.in_ok-replacements.ensures.value valid.0 valid.2))

pub returns-clause-bound : goal.returns-clause-bound
returns-clause-bound c =
    let valid = valid_parts c.args.op.now c.args.rope.now c.in_ok-check_rope.ensures.ok in
    let same = c.in_ok-replacements.ensures.value valid.0 valid.2 in
    let len = apply-length (actions c.args.op.now) c.args.rope.now valid.0 valid.2 in
    omega (arith, ap length same, len, c.output_len-length.ensures.value, c.output_len-length.ensures.bound)

pub returns-clause-balance : goal.returns-clause-balance
returns-clause-balance c = λ h.
    let valid = valid_parts c.args.op.now c.args.rope.now c.in_ok-check_rope.ensures.ok in
    let same = c.in_ok-replacements.ensures.value valid.0 valid.2 in
    subst (λ (items : List Item). Balanced items) (sym same)
    (keeps_balance (actions c.args.op.now) c.args.rope.now valid.0 0 0 0 0 refl (unbroken_is_structured c.args.op.now valid.1) h valid.2)
