-- What the transform of two operations that apply to one document gives.
--     Meets r l e out      the results of r apply to the documents e and l, each to the other operation's, and both give out
--     AreStructured p      both results are structured
use Rattle.std.specs.Prelude.{◌≡◌, List, Some, Ok}
use Rattle.doc_items.specs.declared.item.Item.{Item}
use Rattle.doc_op.specs.Actions.{Action}
use Rattle.doc_op.specs.Apply.{apply}
use Rattle.doc_op.specs.Structure.{Structured}
use Rattle.op_transform.specs.Transform.{Both, Outcome}

pub record Meets (r : Outcome) (after_later after_earlier : List Item) : Type 0 where
  pub later : List Action
  pub earlier : List Action
  pub out : List Item
  pub is : r ≡ Ok (later, earlier)
  pub later_applies : apply later after_earlier ≡ Some out
  pub earlier_applies : apply earlier after_later ≡ Some out

abbrev pub AreStructured : Both → Type 0
AreStructured p = Structured p.0 × Structured p.1
