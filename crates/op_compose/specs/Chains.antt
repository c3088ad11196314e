-- One change and then another, of one item.
--     follows w u, then w u     u can come after w: a key of both has w's new value as u's old one;  both as one change set
--     attributes_back a         the attribute change that undoes a
--     attributes_follow o a, attributes_then o a      a can come after o;  both as one attribute change
--     named_new n c             where a deletion names a key that is changed: its value is the new one
--     one_name_before n c       what a deletion names before the key is changed
--     names_before n w          the names of a deletion before w: the keys of w with their old values, and its other names
--     can_precede c n w o       a deletion of c that names n can come after the changes w and o
use Rattle.std.specs.Prelude.{Bool, true, ◌&&◌, Option, None, Some}
use Rattle.doc_items.specs.Maps.{Key, same_value, merge, matches}
use Rattle.doc_items.specs.Changes.{KeyChange, ChangeSet, agrees, put, back}
use Rattle.doc_items.specs.declared.item.Content.{Content}
use Rattle.change_view.specs.declared.rule.Rule.TheVariants.{Then}
use Rattle.change_view.specs.declared.rule.Test.TheVariants.{NewIsOld}
use Rattle.change_view.specs.Sets.{joined, passes}
use Rattle.doc_op.specs.Actions.{AttributeChange, Unchanged, Update, Replace, Names}
use Rattle.doc_op.specs.Apply.{attributes_agree, put_attributes, content_agrees}

abbrev pub follows : ChangeSet → ChangeSet → Bool
follows w u = passes NewIsOld w u

abbrev pub then : ChangeSet → ChangeSet → ChangeSet
then w u = joined Then w u

-- ---- attribute changes

abbrev pub attributes_back : AttributeChange → AttributeChange
attributes_back Unchanged = Unchanged
attributes_back (Update c) = Update (back c)
attributes_back (Replace m n) = Replace n m

abbrev pub attributes_follow : AttributeChange → AttributeChange → Bool
attributes_follow Unchanged a = true
attributes_follow (Update w) Unchanged = true
attributes_follow (Update w) (Update u) = follows w u
attributes_follow (Update w) (Replace n p) = agrees (back w) n
attributes_follow (Replace m n) a = attributes_agree a n

abbrev pub attributes_then : AttributeChange → AttributeChange → AttributeChange
attributes_then Unchanged a = a
attributes_then (Update w) Unchanged = Update w
attributes_then (Update w) (Update u) = Update (then w u)
attributes_then (Update w) (Replace n p) = Replace (put (back w) n) p
attributes_then (Replace m n) a = Replace m (put_attributes a n)

-- ---- deletions

abbrev pub named_new : Option (Option Key) → Option KeyChange → Bool
named_new None c = true
named_new (Some n) None = true
named_new (Some n) (Some c) = same_value n c.new

abbrev pub one_name_before : Option (Option Key) → Option KeyChange → Option (Option Key)
one_name_before n None = n
one_name_before n (Some c) = Some c.old

abbrev pub names_before : Names → ChangeSet → Names
names_before n w = merge one_name_before n w

abbrev pub can_precede : Content → Names → ChangeSet → AttributeChange → Bool
can_precede c n w o = content_agrees (attributes_back o) c && matches named_new n w
