-- How an operation applies to a document: its actions take the items one by one, and both lists end together.
--     attributes_agree, put_attributes     an attribute change on a map of attributes
--     content_agrees, put_content          an attribute change on a content; only an element start has attributes
--     same_content                         equal contents, equal attributes included
--     keeps, kept                          whether a Keep takes an item, and what it gives
--     fits                                 whether a Del takes an item
--     apply acts items                     the items afterwards, where the actions apply
--     mismatch acts items                  the index of the first item that doesn't agree with its action, if there is one
--     valid cs items                       the items afterwards, where the components are structured and apply
use Rattle.std.specs.Prelude.{ℕ, ◌+◌, Bool, true, false, cond, ◌&&◌, List, [], ◌∷◌, Option, None, Some, nat_eq, option_map, is_none}
use Rattle.doc_items.specs.Maps.{Key, Map, same_text, same_value, same_values, matches, each}
use Rattle.doc_items.specs.Changes.{ChangeSet, agrees, put}
use Rattle.doc_items.specs.declared.item.Content.{Content}
use Rattle.doc_items.specs.declared.item.Content.TheVariants.{Character, Start, End}
use Rattle.doc_items.specs.declared.item.Item.{Item}
use Rattle.doc_op.specs.declared.component.Component.{Component}
use Rattle.doc_op.specs.Actions.{AttributeChange, Unchanged, Update, Replace, Names, Action, Keep, Ins, Del, actions}
use Rattle.doc_op.specs.Structure.{first_break}

-- ---- attributes and contents

abbrev pub attributes_agree : AttributeChange → Map Key → Bool
attributes_agree Unchanged m = true
attributes_agree (Update c) m = agrees c m
attributes_agree (Replace old new) m = same_values old m

abbrev pub put_attributes : AttributeChange → Map Key → Map Key
put_attributes Unchanged m = m
put_attributes (Update c) m = put c m
put_attributes (Replace old new) m = new

abbrev pub is_unchanged : AttributeChange → Bool
is_unchanged Unchanged = true
is_unchanged (Update c) = false
is_unchanged (Replace old new) = false

abbrev pub content_agrees : AttributeChange → Content → Bool
content_agrees a (Character x) = is_unchanged a
content_agrees a (Start kind m) = attributes_agree a m
content_agrees a End = is_unchanged a

abbrev pub put_content : AttributeChange → Content → Content
put_content a (Character x) = Character x
put_content a (Start kind m) = Start kind (put_attributes a m)
put_content a End = End

abbrev pub same_content : Content → Content → Bool
same_content (Character x) (Character y) = nat_eq x y
same_content (Character x) (Start kind m) = false
same_content (Character x) End = false
same_content (Start kind m) (Character y) = false
same_content (Start kind m) (Start other n) = same_text kind other && same_values m n
same_content (Start kind m) End = false
same_content End (Character y) = false
same_content End (Start other n) = false
same_content End End = true

-- ---- one item

abbrev pub keeps : ChangeSet → AttributeChange → Item → Bool
keeps c a i = agrees c i.notes && content_agrees a i.content

abbrev pub kept : ChangeSet → AttributeChange → Item → Item
kept c a i = record { content = put_content a i.content; notes = put c i.notes }

abbrev pub named : Option (Option Key) → Option Key → Bool
named None v = true
named (Some n) v = same_value n v

abbrev pub fits : Content → Names → Item → Bool
fits c n i = same_content c i.content && matches named n i.notes

-- all annotations of an item
abbrev pub names_of : Map Key → Names
names_of m = each Some m

-- ---- a whole document

abbrev pub apply : List Action → List Item → Option (List Item)
apply [] [] = Some []
apply [] (i ∷ items) = None
apply (Ins x ∷ more) items = option_map (λ out. x ∷ out) (apply more items)
apply (Keep c a ∷ more) [] = None
apply (Keep c a ∷ more) (i ∷ items) = cond (keeps c a i) (option_map (λ out. kept c a i ∷ out) (apply more items)) None
apply (Del c n ∷ more) [] = None
apply (Del c n ∷ more) (i ∷ items) = cond (fits c n i) (apply more items) None

abbrev pub mismatch_from : ℕ → List Action → List Item → Option ℕ
mismatch_from p [] items = None
mismatch_from p (Ins x ∷ more) items = mismatch_from p more items
mismatch_from p (Keep c a ∷ more) [] = None
mismatch_from p (Keep c a ∷ more) (i ∷ items) = cond (keeps c a i) (mismatch_from (p + 1) more items) (Some p)
mismatch_from p (Del c n ∷ more) [] = None
mismatch_from p (Del c n ∷ more) (i ∷ items) = cond (fits c n i) (mismatch_from (p + 1) more items) (Some p)

abbrev pub mismatch : List Action → List Item → Option ℕ
mismatch acts items = mismatch_from 0 acts items

abbrev pub valid : List Component → List Item → Option (List Item)
valid cs items = cond (is_none (first_break cs)) (apply (actions cs) items) None
