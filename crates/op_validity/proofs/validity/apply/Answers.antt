use Rattle.std.proofs.Common.{length, List, sym, ap, subst, ◌∙◌, refl, arith}
use Rattle.doc_items.specs.Balance.{Balanced}
use Rattle.doc_items.specs.declared.item.Item.{Item}
use Rattle.doc_op.specs.Actions.{actions}
use Rattle.doc_op.proofs.Applying.{apply-length, keeps_balance}
use Rattle.doc_op.proofs.Structures.{unbroken_is_structured}
use Rattle.op_validity.proofs.Ways.{valid_parts}
use Rattle.op_validity.proofs.validity.apply.Goals as goal

pub from_vec-requires : goal.from_vec-requires
from_vec-requires c =
    let valid = valid_parts c.args.op.now c.args.document.now c.in_ok-check.ensures.ok in
    let same = c.in_ok-items.ensures valid.0 valid.2 in
    let len = apply-length (actions c.args.op.now) c.args.document.now valid.0 valid.2 in
    omega (arith, ap length same, len, c.output_len-length.ensures.value, c.output_len-length.ensures.bound)

pub returns-clause-balance : goal.returns-clause-balance
returns-clause-balance c = λ h.
    let valid = valid_parts c.args.op.now c.args.document.now c.in_ok-check.ensures.ok in
    let same = c.in_ok-items.ensures valid.0 valid.2 in
    subst (λ (items : List Item). Balanced items) (sym (c.from_vec.ensures ∙ same))
    (keeps_balance (actions c.args.op.now) c.args.document.now valid.0 0 0 0 0 refl (unbroken_is_structured c.args.op.now valid.1) h valid.2)
