-- The laws of the inverse.
--     Applies           it applies to what the operation gives, and gives the document back
--     StaysStructured   it is structured where the operation is
--     Undoes            so of components: where an operation is valid, its inverse is valid afterwards and gives the document back
--     InverseLengths    it takes what the operation gives, gives what the operation takes, and inserts what the operation deletes
--     Twice             the inverse of the inverse is the operation, each deletion of which names all annotations
--     TwiceSame         these are its own actions exactly where each of its deletions names all annotations
--     TwiceNormal       and then, of an operation in normal form, its own components
use Rattle.std.specs.Prelude.{◌≡◌, ◌↔◌, ◌≤◌, ◌+◌, List, length, Some}
use Rattle.doc_items.specs.declared.item.Item.{Item}
use Rattle.doc_op.specs.declared.component.Component.{Component}
use Rattle.doc_op.specs.Actions.{Action, actions}
use Rattle.doc_op.specs.Apply.{apply, valid}
use Rattle.doc_op.specs.Lengths.{input_len, output_len, inserted_len}
use Rattle.doc_op.specs.Normal.{normal_form}
use Rattle.doc_op.specs.Structure.{Structured}
use Rattle.op_invert.specs.Inverse.{inverse, fully_named, NamesAll}

abbrev pub Applies : Type 0
Applies = (acts : List Action) (items out : List Item) → apply acts items ≡ Some out → apply (inverse acts items) out ≡ Some items

abbrev pub StaysStructured : Type 0
StaysStructured = (acts : List Action) (items out : List Item) → apply acts items ≡ Some out → Structured acts
    → Structured (inverse acts items)

abbrev pub Undoes : Type 0
Undoes = (cs inv : List Component) (items out : List Item) → actions inv ≡ inverse (actions cs) items → valid cs items ≡ Some out
    → valid inv out ≡ Some items

pub record HasLengths (acts : List Action) (items : List Item) : Type 0 where
  pub input : input_len (inverse acts items) ≡ output_len acts
  pub output : output_len (inverse acts items) ≡ input_len acts
  pub inserted : inserted_len (inverse acts items) + output_len acts ≡ input_len acts + inserted_len acts
  pub bound : inserted_len (inverse acts items) ≤ length items

abbrev pub InverseLengths : Type 0
InverseLengths = (acts : List Action) (items out : List Item) → apply acts items ≡ Some out → HasLengths acts items

abbrev pub Twice : Type 0
Twice = (acts : List Action) (items out : List Item) → apply acts items ≡ Some out → inverse (inverse acts items) out
    ≡ fully_named acts items

abbrev pub TwiceSame : Type 0
TwiceSame = (acts : List Action) (items out : List Item) → apply acts items ≡ Some out → (fully_named acts items ≡ acts)
    ↔ NamesAll acts items

abbrev pub TwiceNormal : Type 0
TwiceNormal = (cs : List Component) (items out : List Item) → apply (actions cs) items ≡ Some out → cs ≡ normal_form (actions cs)
    → NamesAll (actions cs) items → normal_form (inverse (inverse (actions cs) items) out) ≡ cs
