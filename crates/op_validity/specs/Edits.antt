-- A walk over a document in pieces that writes down what is to be replaced in it.
--     IsAt doc done from left          the items from the place `from` on aren't replaced yet, and those left are the last
--     Makes all doc done from items left more     what the actions `all` make of the document is what the replacements done
--                                      make of its items before `from`, these items, and what the actions `more` make of
--                                      those left
--     IsAtPlace, MakesAll, IsClosed    the same of a walk;  no items wait to be put in, and none to be replaced
use Rattle.std.specs.Prelude.{◌≡◌, ℕ, ◌+◌, ◌≤◌, List, [], ◌++◌, length, take, Some}
use Rattle.doc_items.specs.declared.item.Item.{Item}
use Rattle.doc_op.specs.Actions.{Action}
use Rattle.doc_op.specs.Apply.{apply}
use Rattle.doc_rope.specs.declared.replacement.Replacement.{Replacement}
use Rattle.doc_rope.specs.Replacements.{all_replaced, InOrder}
use Rattle.op_validity.specs.declared.edits.Edits.{Edits}
use Rattle.op_validity.specs.Sources.{ahead, IsTail}

pub record IsAt (doc : List Item) (done : List Replacement) (from : ℕ) (left : List Item) : Type 0 where
  pub tail : IsTail left doc
  pub place : from + length left ≤ length doc
  pub order : InOrder 0 done from

pub record Makes (all : List Action) (doc : List Item) (done : List Replacement) (from : ℕ) (items left : List Item)
    (more : List Action) : Type 0 where
  pub run : (out : List Item) → apply all doc ≡ Some out → (rest : List Item) × (apply more left ≡ Some rest)
      × (all_replaced done (take from doc ++ items ++ rest) ≡ out)

abbrev pub IsAtPlace : Edits → Type 0
IsAtPlace e = IsAt e.rope.now e.done.items e.from (ahead e.build.rest)

abbrev pub MakesAll : List Action → Edits → List Action → Type 0
MakesAll all e more = Makes all e.rope.now e.done.items e.from e.build.items.items (ahead e.build.rest) more

abbrev pub IsClosed : Edits → Type 0
IsClosed e = (e.build.items.items ≡ []) × (e.from + length (ahead e.build.rest) ≡ length e.rope.now)
