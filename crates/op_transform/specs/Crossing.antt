-- What two operations that change one item in two ways make of each other, so that both orders give one item.
--     cross u w              each key that both change has one old value in both
--     over u w               u's keys, each from w's new value where w changes it, to u's new value
--     under w u              w without u's keys
--     update_if_any c        an update, or none where no key changes
--     attributes_cross, attributes_over, attributes_under     the same of two attribute changes
--     names_after n c        the names n where the changes c came in between: c's keys have their new values
--     can_follow c n u a     a deletion of content c with names n can come after the changes u and a
--     delete_alike           two deletions are of one content, and name no key in two ways
--     delete_all x           the deletion of the item x, all its annotations named
--     keep_all               an item is kept as it is
use Rattle.std.specs.Prelude.{Bool, true, cond, ◌&&◌, Option, None, Some, nat_eq}
use Rattle.std.specs.FinMap.{len}
use Rattle.doc_items.specs.Maps.{Key, same_value, merge, matches}
use Rattle.doc_items.specs.Changes.{KeyChange, ChangeSet, agrees, put, none_running}
use Rattle.doc_items.specs.declared.item.Content.{Content}
use Rattle.doc_items.specs.declared.item.Item.{Item}
use Rattle.doc_op.specs.Actions.{AttributeChange, Unchanged, Update, Replace, Names, Action, Del, keep}
use Rattle.doc_op.specs.Apply.{attributes_agree, put_attributes, content_agrees, same_content, names_of}
use Rattle.change_view.specs.Rules.{one_over, one_under, same_old}
use Rattle.change_view.specs.Sets.{start_at}

-- ---- changes of keys

abbrev pub cross : ChangeSet → ChangeSet → Bool
cross u w = matches same_old u w

abbrev pub over : ChangeSet → ChangeSet → ChangeSet
over u w = merge one_over u w

abbrev pub under : ChangeSet → ChangeSet → ChangeSet
under w u = merge one_under w u

unfoldable pub is_empty : ChangeSet → Bool
is_empty c = nat_eq (len c) 0

-- ---- changes of attributes

abbrev pub update_if_any : ChangeSet → AttributeChange
update_if_any c = cond (is_empty c) Unchanged (Update c)

abbrev pub attributes_cross : AttributeChange → AttributeChange → Bool
attributes_cross Unchanged b = true
attributes_cross (Update u) Unchanged = true
attributes_cross (Update u) (Update w) = cross u w
attributes_cross (Update u) (Replace m n) = agrees u m
attributes_cross (Replace m n) b = attributes_agree b m

-- the later change a where the earlier change b came first
abbrev pub attributes_over : AttributeChange → AttributeChange → AttributeChange
attributes_over Unchanged b = Unchanged
attributes_over (Update u) Unchanged = Update u
attributes_over (Update u) (Update w) = Update (over u w)
attributes_over (Update u) (Replace m n) = Update (start_at u n)
attributes_over (Replace m n) b = Replace (put_attributes b m) n

-- the earlier change b where the later change a came first: a stays
abbrev pub attributes_under : AttributeChange → AttributeChange → AttributeChange
attributes_under b Unchanged = b
attributes_under Unchanged (Update u) = Unchanged
attributes_under (Update w) (Update u) = update_if_any (under w u)
attributes_under (Replace m n) (Update u) = Replace (put u m) (put u n)
attributes_under b (Replace m n) = Unchanged

-- ---- a deletion beside a change, or beside another deletion

abbrev pub named_old : Option (Option Key) → Option KeyChange → Bool
named_old (Some n) (Some c) = same_value n c.old
named_old n c = true

abbrev pub one_name_after : Option (Option Key) → Option KeyChange → Option (Option Key)
one_name_after n None = n
one_name_after n (Some c) = Some c.new

abbrev pub names_after : Names → ChangeSet → Names
names_after n c = merge one_name_after n c

abbrev pub can_follow : Content → Names → ChangeSet → AttributeChange → Bool
can_follow c n u a = content_agrees a c && matches named_old n u

abbrev pub named_alike : Option (Option Key) → Option (Option Key) → Bool
named_alike (Some n) (Some o) = same_value n o
named_alike n o = true

abbrev pub delete_alike : Content → Names → Content → Names → Bool
delete_alike c n d o = same_content c d && matches named_alike n o

abbrev pub delete_all : Item → Action
delete_all x = Del x.content (names_of x.notes)

abbrev pub keep_all : Action
keep_all = keep none_running
