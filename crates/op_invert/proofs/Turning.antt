-- A change of one item, and then the change that undoes it.
--     back_back, attributes_back_back     turned back twice, a change is itself
--     back_some                           a change set with keys has keys when it is turned back
--     keeps_back, kept_back               what is kept can be changed back, and then is the item that was there
use Rattle.std.proofs.Common.{◌≡◌, ◌≢◌, true, refl, sym, ap, ◌∙◌, Option, None, Some, option_map}
use Rattle.std.specs.Ordering.{nat_cmp}
use Rattle.std.specs.Cmp.Lexicographic.{slice_cmp}
use Rattle.std.specs.FinMap.{get, get-empty}
use Rattle.std.proofs.lemmas.Bool.{and_parts, and_from}
use Rattle.doc_items.specs.Maps.{Key, Map}
use Rattle.doc_items.specs.Changes.{KeyChange, ChangeSet, none_running, turned, fits_old, set_new, agrees, put, back}
use Rattle.doc_items.specs.declared.item.Content.{Content}
use Rattle.doc_items.specs.declared.item.Content.TheVariants.{Character, Start, End}
use Rattle.doc_items.specs.declared.item.Item.{Item}
use Rattle.doc_items.proofs.Maps.{get-each, matches_all, same_value-is, same_value-refl, same_values-is, same_values-refl, alike}
use Rattle.doc_op.specs.Actions.{AttributeChange, Unchanged, Update, Replace}
use Rattle.doc_op.specs.Apply.{attributes_agree, put_attributes, content_agrees, put_content, keeps, kept}
use Rattle.op_compose.specs.Chains.{attributes_back}
use Rattle.op_transform.proofs.Changes.{at_put, at_agrees}

-- ---- at one key

key_back : (w : Option KeyChange) (v : Option Key) → fits_old (option_map turned w) (set_new w v) ≡ true
key_back None v = refl
key_back (Some w) v = same_value-refl w.new

key_back_put : (w : Option KeyChange) (v : Option Key) → fits_old w v ≡ true → set_new (option_map turned w) (set_new w v) ≡ v
key_back_put None v p = refl
key_back_put (Some w) v p = same_value-is w.old v p

key_back_back : (w : Option KeyChange) → option_map turned (option_map turned w) ≡ w
key_back_back None = refl
key_back_back (Some w) = refl

-- ---- of whole sets

at_back : (w : ChangeSet) (q : Key) → get (back w) q ≡ option_map turned (get w q)
at_back w q = get-each turned w q

back_agrees : (w : ChangeSet) (m : Map Key) → agrees (back w) (put w m) ≡ true
back_agrees w m = matches_all fits_old (back w) (put w m) (λ k. rw (at_back, at_put) (key_back (get w k) (get m k)))

back_put : (w : ChangeSet) (m : Map Key) → agrees w m ≡ true → put (back w) (put w m) ≡ m
back_put w m p = alike _ _ (λ k. simp (at_put, at_back) (key_back_put (get w k) (get m k) (at_agrees w m k p)))

pub back_back : (w : ChangeSet) → back (back w) ≡ w
back_back w = alike _ _ (λ k. simp at_back (key_back_back (get w k)))

back_none : back none_running ≡ none_running
back_none = alike _ _ (λ k. at_back none_running k ∙ ap (option_map turned) (get-empty (slice_cmp nat_cmp) k) ∙ sym (get-empty (slice_cmp nat_cmp) k))

pub back_some : (w : ChangeSet) → w ≢ none_running → back w ≢ none_running
back_some w h e = h (sym (back_back w) ∙ ap back e ∙ back_none)

-- ---- attributes and contents

attributes_back_agrees : (a : AttributeChange) (m : Map Key) → attributes_agree (attributes_back a) (put_attributes a m) ≡ true
attributes_back_agrees Unchanged m = refl
attributes_back_agrees (Update w) m = back_agrees w m
attributes_back_agrees (Replace k n) m = same_values-refl n

attributes_back_put : (a : AttributeChange) (m : Map Key) → attributes_agree a m ≡ true → put_attributes (attributes_back a) (put_attributes a m) ≡ m
attributes_back_put Unchanged m p = refl
attributes_back_put (Update w) m p = back_put w m p
attributes_back_put (Replace k n) m p = same_values-is k m p

pub attributes_back_back : (a : AttributeChange) → attributes_back (attributes_back a) ≡ a
attributes_back_back Unchanged = refl
attributes_back_back (Update w) = ap Update (back_back w)
attributes_back_back (Replace k n) = refl

content_back_agrees : (a : AttributeChange) (c : Content) → content_agrees a c ≡ true → content_agrees (attributes_back a) (put_content a c) ≡ true
content_back_agrees Unchanged (Character x) p = refl
content_back_agrees (Update w) (Character x) p = p
content_back_agrees (Replace k n) (Character x) p = p
content_back_agrees a (Start kind m) p = attributes_back_agrees a m
content_back_agrees Unchanged End p = refl
content_back_agrees (Update w) End p = p
content_back_agrees (Replace k n) End p = p

content_back_put : (a : AttributeChange) (c : Content) → content_agrees a c ≡ true → put_content (attributes_back a) (put_content a c) ≡ c
content_back_put a (Character x) p = refl
content_back_put a (Start kind m) p = ap (Start kind) (attributes_back_put a m p)
content_back_put a End p = refl

-- ---- one item

pub keeps_back : (c : ChangeSet) (a : AttributeChange) (i : Item) → keeps c a i ≡ true → keeps (back c) (attributes_back a) (kept c a i) ≡ true
keeps_back c a i p = and_from _ _ (back_agrees c i.notes) (content_back_agrees a i.content (and_parts _ _ p).1)

pub kept_back : (c : ChangeSet) (a : AttributeChange) (i : Item) → keeps c a i ≡ true → kept (back c) (attributes_back a) (kept c a i) ≡ i
kept_back c a i p =
    let q = and_parts _ _ p in
    λ j. record { content = content_back_put a i.content q.1 j; notes = back_put c i.notes q.0 j }
