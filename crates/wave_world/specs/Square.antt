-- The square: two operations that were made on one document, each taken past the other, lead to one document.
--     Meeting r l e document     the results of r apply to what the other operation leaves, l and e; both give one document,
--                                balanced where the first was
--     ActionSquare           so of structured lists of actions that apply to one document
--     Square                 so of operations that are valid at one document; and both results are structured
use Rattle.std.specs.Prelude.{◌≡◌, List, Some}
use Rattle.doc_items.specs.Balance.{Balanced}
use Rattle.doc_items.specs.declared.item.Item.{Item}
use Rattle.doc_op.specs.declared.component.Component.{Component}
use Rattle.doc_op.specs.Actions.{Action, actions}
use Rattle.doc_op.specs.Apply.{apply, valid}
use Rattle.doc_op.specs.Structure.{Structured}
use Rattle.op_transform.specs.Square.{Meets, AreStructured}
use Rattle.op_transform.specs.Transform.{Outcome, transform}

pub record Meeting (r : Outcome) (after_later after_earlier document : List Item) : Type 0 where
  pub meets : Meets r after_later after_earlier
  pub structured : AreStructured (meets.later, meets.earlier)
  pub balanced : Balanced document → Balanced meets.out

abbrev pub ActionSquare : Type 0
ActionSquare = (later earlier : List Action) (document after_later after_earlier : List Item) →
    Structured later → Structured earlier → apply later document ≡ Some after_later → apply earlier document ≡ Some after_earlier →
    Meeting (transform later earlier) after_later after_earlier document

abbrev pub Square : Type 0
Square = (later earlier : List Component) (document after_later after_earlier : List Item) →
    valid later document ≡ Some after_later → valid earlier document ≡ Some after_earlier →
    Meeting (transform (actions later) (actions earlier)) after_later after_earlier document
