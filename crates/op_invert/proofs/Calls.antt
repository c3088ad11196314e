-- What the public calls answer.
--     whole          an operation that is valid takes all items
--     is_inverse     what the walk makes is the inverse
use Rattle.std.proofs.Common.{◌≡◌, List, length, sym, ap, ◌∙◌, IsSome}
use Rattle.doc_items.specs.declared.item.Item.{Item}
use Rattle.doc_op.specs.declared.component.Component.{Component}
use Rattle.doc_op.specs.Actions.{actions}
use Rattle.doc_op.specs.Apply.{valid}
use Rattle.doc_op.specs.Lengths.{input_len}
use Rattle.doc_op.specs.Normal.{normal_form}
use Rattle.op_validity.proofs.Ways.{valid_parts}
use Rattle.op_invert.specs.Inverse.{inverse, IsInverse}
use Rattle.op_invert.proofs.Lengths.{takes_all}
use Rattle.op_invert.proofs.Undoing.{inverse_undoes}

pub whole : (cs : List Component) (document items : List Item) → items ≡ document → IsSome (valid cs document) → input_len (actions cs) ≡ length items
whole cs document items e v = let p = valid_parts cs document v in takes_all (actions cs) document p.0 p.2 ∙ ap length (sym e)

pub is_inverse : (cs inv : List Component) (document items : List Item) → items ≡ document → actions inv ≡ inverse (actions cs) items → inv ≡ normal_form (inverse (actions cs) items) → IsInverse cs document inv
is_inverse cs inv document items e is normal =
    let same = is ∙ ap (inverse (actions cs)) e in
    record {
      is = same;
      normal = normal ∙ ap (λ (d : List Item). normal_form (inverse (actions cs) d)) e;
      undoes = λ out v. inverse_undoes cs inv document out same v;
    }
