-- Codes of actions, for the models that show them.
use Rattle.std.specs.Prelude.{◌≡◌, ◌⊎◌, Option, None, Some, refl}
use Rattle.std.proofs.Common.{inl, inr}
use Rattle.std.specs.Coded.{Coded, code_by, coded_ℕ, coded_list, coded_option, coded×, coded⊎}
use Rattle.std.specs.FinMap.{code}
use Rattle.doc_items.specs.Maps.{Key, Map, map_code}
use Rattle.doc_items.specs.Changes.{ChangeSet}
use Rattle.change_view.specs.Codes.{change_set_code}
use Rattle.doc_items.specs.declared.item.Content.{Content}
use Rattle.doc_items.specs.declared.item.Item.{Item}
use Rattle.doc_items.specs.contracts.item.Content as content_row
use Rattle.doc_items.specs.contracts.item.Item as item_row
use Rattle.doc_op.specs.Actions.{AttributeChange, Unchanged, Update, Replace, Names, Action, Keep, Ins, Del}

abbrev pub key_code : Coded Key
key_code = coded_list coded_ℕ

abbrev pub names_code : Coded Names
names_code = code key_code (coded_option key_code)

-- ---- attribute changes

abbrev AttributeCase : Type 0
AttributeCase = Option (ChangeSet ⊎ (Map Key × Map Key))

abbrev attribute_case : AttributeChange → AttributeCase
attribute_case Unchanged = None
attribute_case (Update c) = Some (inl c)
attribute_case (Replace old new) = Some (inr (old, new))

abbrev of_attribute_case : AttributeCase → AttributeChange
of_attribute_case None = Unchanged
of_attribute_case (Some (inl c)) = Update c
of_attribute_case (Some (inr p)) = Replace p.0 p.1

pub attribute_case_back : (a : AttributeChange) → of_attribute_case (attribute_case a) ≡ a
attribute_case_back Unchanged = refl
attribute_case_back (Update c) = refl
attribute_case_back (Replace old new) = refl

abbrev pub attribute_change_code : Coded AttributeChange
attribute_change_code = code_by AttributeCase
    (coded_option (coded⊎ change_set_code (coded× map_code map_code))) attribute_case of_attribute_case attribute_case_back

-- ---- actions

abbrev ActionCase : Type 0
ActionCase = (ChangeSet × AttributeChange) ⊎ (Item ⊎ (Content × Names))

abbrev action_case : Action → ActionCase
action_case (Keep u a) = inl (u, a)
action_case (Ins x) = inr (inl x)
action_case (Del c n) = inr (inr (c, n))

abbrev of_action_case : ActionCase → Action
of_action_case (inl p) = Keep p.0 p.1
of_action_case (inr (inl x)) = Ins x
of_action_case (inr (inr p)) = Del p.0 p.1

pub action_case_back : (a : Action) → of_action_case (action_case a) ≡ a
action_case_back (Keep u a) = refl
action_case_back (Ins x) = refl
action_case_back (Del c n) = refl

abbrev pub action_code : Coded Action
action_code = code_by ActionCase
    (coded⊎ (coded× change_set_code attribute_change_code)
    (coded⊎ item_row.the_row.coded (coded× content_row.the_row.coded names_code))) action_case of_action_case action_case_back
