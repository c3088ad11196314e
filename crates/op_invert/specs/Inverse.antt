-- The inverse of an operation: what undoes it on the document that it gives.
--     inverse acts items         what undoes the actions, where they take these items: what is inserted is deleted, with all its
--                                annotations named; what is kept is changed back; and what is deleted is inserted as it was
--     fully_named acts items     the actions, each deletion of which names all annotations of the item that it takes
--     NamesAll acts items        each deletion names all annotations of the item that it takes
--     IsInverse cs items inv     the normal form of the inverse, which undoes the operation
use Rattle.std.specs.Prelude.{◌≡◌, List, [], ◌∷◌, Some}
use Rattle.doc_items.specs.Changes.{back}
use Rattle.doc_items.specs.declared.item.Item.{Item}
use Rattle.doc_op.specs.declared.component.Component.{Component}
use Rattle.doc_op.specs.Actions.{Action, Keep, Ins, Del, actions}
use Rattle.doc_op.specs.Apply.{names_of, valid}
use Rattle.doc_op.specs.Normal.{normal_form}
use Rattle.op_compose.specs.Chains.{attributes_back}

abbrev pub inverse : List Action → List Item → List Action
inverse [] items = []
inverse (Ins x ∷ more) items = Del x.content (names_of x.notes) ∷ inverse more items
inverse (Keep c a ∷ more) [] = []
inverse (Keep c a ∷ more) (i ∷ items) = Keep (back c) (attributes_back a) ∷ inverse more items
inverse (Del c n ∷ more) [] = []
inverse (Del c n ∷ more) (i ∷ items) = Ins i ∷ inverse more items

abbrev pub fully_named : List Action → List Item → List Action
fully_named [] items = []
fully_named (Ins x ∷ more) items = Ins x ∷ fully_named more items
fully_named (Keep c a ∷ more) [] = []
fully_named (Keep c a ∷ more) (i ∷ items) = Keep c a ∷ fully_named more items
fully_named (Del c n ∷ more) [] = []
fully_named (Del c n ∷ more) (i ∷ items) = Del c (names_of i.notes) ∷ fully_named more items

abbrev pub NamesAll : List Action → List Item → Type 0
NamesAll [] items = Unit {0}
NamesAll (Ins x ∷ more) items = NamesAll more items
NamesAll (Keep c a ∷ more) [] = Unit {0}
NamesAll (Keep c a ∷ more) (i ∷ items) = NamesAll more items
NamesAll (Del c n ∷ more) [] = Unit {0}
NamesAll (Del c n ∷ more) (i ∷ items) = (n ≡ names_of i.notes) × NamesAll more items

pub record IsInverse (cs : List Component) (items : List Item) (inv : List Component) : Type 0 where
  pub is : actions inv ≡ inverse (actions cs) items
  pub normal : inv ≡ normal_form (inverse (actions cs) items)
  pub undoes : (out : List Item) → valid cs items ≡ Some out → valid inv out ≡ Some items
