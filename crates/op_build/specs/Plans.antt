-- The actions by which each edit is made.
--     retained                   an item that stays as it is
--     around before acts after  actions with items that stay before and after them
--     plan items from count acts actions on a range of the items; all others stay
--     one_change key old new     the change of one key
--     typing, erasing, annotating, adding_element, adding_contents, setting_attribute     the actions of the edits
--     IsEdit op acts items out   an operation in normal form of these actions, structured, that makes this of the items
use Rattle.std.specs.Prelude.{◌≡◌, ℕ, ◌+◌, ◌-◌, List, ◌++◌, length, map, replicate, Option, Some, option_and_then}
use Rattle.std.specs.FinMap.{get, empty, insert}
use Rattle.doc_items.specs.Maps.{Key, Map}
use Rattle.doc_items.specs.Changes.{ChangeSet, none_running}
use Rattle.doc_items.specs.declared.item.Content.{Content}
use Rattle.doc_items.specs.declared.item.Item.{Item}
use Rattle.doc_op.specs.declared.component.Component.{Component}
use Rattle.doc_op.specs.Actions.{Action, Keep, Ins, Del, Unchanged, Update, keep, actions}
use Rattle.doc_op.specs.Apply.{valid}
use Rattle.doc_op.specs.Normal.{normal_form}
use Rattle.doc_op.specs.Structure.{Structured}
use Rattle.op_build.specs.Edits.{range, attributes_of, new_text, new_element, bare}

abbrev pub retained : ℕ → List Action
retained count = replicate count (keep none_running)

abbrev pub around : ℕ → List Action → ℕ → List Action
around before acts behind = retained before ++ acts ++ retained behind

abbrev pub plan : List Item → ℕ → ℕ → List Action → List Action
plan items from count acts = around from acts (length items - (from + count))

abbrev pub one_change : Key → Option Key → Option Key → ChangeSet
one_change key old new = insert none_running key (record { old = old; new = new })

-- ---- on one item

-- no annotation is named
abbrev pub erase_one : Item → Action
erase_one i = Del i.content empty

abbrev pub annotate_one : Key → Option Key → Item → Action
annotate_one key value i = Keep (one_change key (get i.notes key) value) Unchanged

abbrev pub attribute_one : Key → Option Key → Item → Action
attribute_one key value i = Keep none_running (Update (one_change key (option_and_then (λ m. get m key) (attributes_of i.content)) value))

-- ---- on a document

abbrev pub typing : List Item → ℕ → List ℕ → List Action
typing items place text = plan items place 0 (map Ins (new_text items place text))

abbrev pub adding_element : List Item → ℕ → List ℕ → Map Key → List Action
adding_element items place kind attributes = plan items place 0 (map Ins (new_element items place kind attributes))

abbrev pub adding_contents : List Item → ℕ → List Content → List Action
adding_contents items place contents = plan items place 0 (map Ins (bare contents))

abbrev pub erasing : List Item → ℕ → ℕ → List Action
erasing items from count = plan items from count (map erase_one (range items from count))

abbrev pub annotating : List Item → ℕ → ℕ → Key → Option Key → List Action
annotating items from count key value = plan items from count (map (annotate_one key value) (range items from count))

abbrev pub setting_attribute : List Item → ℕ → Key → Option Key → List Action
setting_attribute items place key value = plan items place 1 (map (attribute_one key value) (range items place 1))

-- ---- the operation

pub record IsEdit (op : List Component) (acts : List Action) (items out : List Item) : Type 0 where
  pub is : actions op ≡ acts
  pub normal : op ≡ normal_form acts
  pub structured : Structured acts
  pub makes : valid op items ≡ Some out
