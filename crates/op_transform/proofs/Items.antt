-- The rows of the transform at one item.
use Rattle.std.proofs.Common.{◌≡◌, true, false, cond, ◌&&◌, refl, sym, ap, subst, ◌∙◌, true≢false, Option, None, Some}
use Rattle.std.specs.Option.{option_map}
use Rattle.std.specs.FinMap.{get, empty}
use Rattle.std.specs.Cmp.Lexicographic.{bytes_decides}
use Rattle.std.proofs.lemmas.Bool.{and_parts, and_from, eq-eqb}
use Rattle.doc_items.specs.Maps.{Key, Map, same_values, matches}
use Rattle.doc_items.specs.Changes.{KeyChange, ChangeSet, fits_old, set_new, agrees, put}
use Rattle.op_transform.specs.Crossing.{cross, over, under, is_empty, attributes_cross, attributes_over, attributes_under, update_if_any, named_old, one_name_after, names_after, can_follow, named_alike, delete_alike}
use Rattle.doc_items.specs.declared.item.Content.{Content}
use Rattle.doc_items.specs.declared.item.Content.TheVariants.{Character, Start, End}
use Rattle.doc_items.specs.declared.item.Item.{Item}
use Rattle.doc_op.specs.Actions.{AttributeChange, Unchanged, Update, Replace, Names}
use Rattle.doc_op.specs.Apply.{attributes_agree, put_attributes, is_unchanged, content_agrees, put_content, same_content, keeps, kept, named, fits, names_of}
use Rattle.doc_items.proofs.Maps.{get-merge, get-each, matches_at, matches_all, same_value-is, same_value-refl, same_values-is, same_values-refl}
use Rattle.doc_op.proofs.Applying.{same_content-is}
use Rattle.op_transform.proofs.Changes.{at_put, at_agrees, changes_cross, over_agrees, under_agrees, changes_meet, put_empty, start_at_agrees, start_at_put, empty_agrees, empty_put}

-- ---- attribute changes

update_if_any-agrees : (c : ChangeSet) (m : Map Key) → agrees c m ≡ true → attributes_agree (update_if_any c) m ≡ true
update_if_any-agrees c m h = elim (is_empty c) as (λ b. attributes_agree (cond b Unchanged (Update c)) m ≡ true) [ true ↦ refl | false ↦ h ]

update_if_any-put : (c : ChangeSet) (m : Map Key) → put_attributes (update_if_any c) m ≡ put c m
update_if_any-put c m = elim (is_empty c) as (λ b. is_empty c ≡ b → put_attributes (cond b Unchanged (Update c)) m ≡ put c m) [ true ↦ λ e. sym (put_empty c m e) | false ↦ λ e. refl ] refl

-- what the table gives at one map
pub record AttributeSquare (a b : AttributeChange) (m : Map Key) : Type 0 where
  pub cross : attributes_cross a b ≡ true
  pub later : attributes_agree (attributes_over a b) (put_attributes b m) ≡ true
  pub earlier : attributes_agree (attributes_under b a) (put_attributes a m) ≡ true
  pub meet : put_attributes (attributes_over a b) (put_attributes b m) ≡ put_attributes (attributes_under b a) (put_attributes a m)

pub attribute_square : (a b : AttributeChange) (m : Map Key) → attributes_agree a m ≡ true → attributes_agree b m ≡ true → AttributeSquare a b m
attribute_square Unchanged Unchanged m p q = record { cross = refl; later = refl; earlier = refl; meet = refl }
attribute_square Unchanged (Update w) m p q = record { cross = refl; later = refl; earlier = q; meet = refl }
attribute_square Unchanged (Replace k n) m p q = record { cross = refl; later = refl; earlier = q; meet = refl }
attribute_square (Update u) Unchanged m p q = record { cross = refl; later = p; earlier = refl; meet = refl }
attribute_square (Update u) (Update w) m p q = record {
  cross = changes_cross u w m p q;
  later = over_agrees u w m p;
  earlier = update_if_any-agrees (under w u) (put u m) (under_agrees u w m q);
  meet = changes_meet u w m ∙ sym (update_if_any-put (under w u) (put u m));
}
attribute_square (Update u) (Replace k n) m p q =
    let e : k ≡ m = same_values-is k m q in record {
      cross = subst (λ x. agrees u x ≡ true) (sym e) p;
      later = start_at_agrees u n;
      earlier = ap (λ x. same_values (put u x) (put u m)) e ∙ same_values-refl (put u m);
      meet = start_at_put u n;
    }
attribute_square (Replace k n) Unchanged m p q = record { cross = refl; later = p; earlier = refl; meet = refl }
attribute_square (Replace k n) (Update w) m p q =
    let e : k ≡ m = same_values-is k m p in record {
      cross = subst (λ x. agrees w x ≡ true) (sym e) q;
      later = ap (λ x. same_values (put w x) (put w m)) e ∙ same_values-refl (put w m);
      earlier = refl;
      meet = refl;
    }
attribute_square (Replace k n) (Replace l o) m p q =
    let e : k ≡ m = same_values-is k m p in record {
      cross = subst (λ x. same_values l x ≡ true) (sym e) q;
      later = same_values-refl o;
      earlier = refl;
      meet = refl;
    }

-- ---- contents

pub record ContentSquare (a b : AttributeChange) (c : Content) : Type 0 where
  pub cross : attributes_cross a b ≡ true
  pub later : content_agrees (attributes_over a b) (put_content b c) ≡ true
  pub earlier : content_agrees (attributes_under b a) (put_content a c) ≡ true
  pub meet : put_content (attributes_over a b) (put_content b c) ≡ put_content (attributes_under b a) (put_content a c)

unchanged : (a : AttributeChange) → is_unchanged a ≡ true → a ≡ Unchanged
unchanged Unchanged e = refl
unchanged (Update c) e = absurd (true≢false (sym e))
unchanged (Replace m n) e = absurd (true≢false (sym e))

pub content_square : (a b : AttributeChange) (c : Content) → content_agrees a c ≡ true → content_agrees b c ≡ true → ContentSquare a b c
content_square a b (Character x) p q = rw (unchanged a p, unchanged b q) (record { cross = refl; later = refl; earlier = refl; meet = refl })
content_square a b End p q = rw (unchanged a p, unchanged b q) (record { cross = refl; later = refl; earlier = refl; meet = refl })
content_square a b (Start kind m) p q =
    let s = attribute_square a b m p q in
    record { cross = s.cross; later = s.later; earlier = s.earlier; meet = ap (Start kind) s.meet }

-- ---- both keep the item

pub record KeepSquare (u w : ChangeSet) (a b : AttributeChange) (i : Item) : Type 0 where
  pub cross : (cross u w && attributes_cross a b) ≡ true
  pub later : keeps (over u w) (attributes_over a b) (kept w b i) ≡ true
  pub earlier : keeps (under w u) (attributes_under b a) (kept u a i) ≡ true
  pub meet : kept (over u w) (attributes_over a b) (kept w b i) ≡ kept (under w u) (attributes_under b a) (kept u a i)

pub keep_square : (u w : ChangeSet) (a b : AttributeChange) (i : Item) → keeps u a i ≡ true → keeps w b i ≡ true → KeepSquare u w a b i
keep_square u w a b i p q =
    let ps = and_parts _ _ p in
    let qs = and_parts _ _ q in
    let s = content_square a b i.content ps.1 qs.1 in
    record {
      cross = and_from _ _ (changes_cross u w i.notes ps.0 qs.0) s.cross;
      later = and_from _ _ (over_agrees u w i.notes ps.0) s.later;
      earlier = and_from _ _ (under_agrees u w i.notes qs.0) s.earlier;
      meet = λ j. record { content = s.meet j; notes = changes_meet u w i.notes j };
    }

-- ---- one keeps, the other deletes

pub same_content-refl : (c : Content) → same_content c c ≡ true
same_content-refl (Character x) = eq-eqb x x refl
same_content-refl (Start k m) = and_from _ _ ((bytes_decides k k).1 refl) (same_values-refl m)
same_content-refl End = refl

key_can_follow : (n : Option (Option Key)) (u : Option KeyChange) (v : Option Key) → named n v ≡ true → fits_old u v ≡ true → named_old n u ≡ true
key_can_follow None u v p q = refl
key_can_follow (Some n) None v p q = refl
key_can_follow (Some n) (Some u) v p q = rw (same_value-is n v p) (rw (same_value-is u.old v q) (same_value-refl v))

key_after : (n : Option (Option Key)) (u : Option KeyChange) (v : Option Key) → named n v ≡ true → named (one_name_after n u) (set_new u v) ≡ true
key_after n None v p = p
key_after n (Some u) v p = same_value-refl u.new

at_names_after : (n : Names) (u : ChangeSet) (q : Key) → get (names_after n u) q ≡ one_name_after (get n q) (get u q)
at_names_after n u q = get-merge one_name_after n u q refl

at_named : (n : Names) (m : Map Key) (q : Key) → matches named n m ≡ true → named (get n q) (get m q) ≡ true
at_named n m q h = matches_at named n m q refl h

pub record DeleteAfterKeep (u : ChangeSet) (a : AttributeChange) (c : Content) (n : Names) (i : Item) : Type 0 where
  pub can : can_follow c n u a ≡ true
  pub fit : fits (put_content a c) (names_after n u) (kept u a i) ≡ true

pub delete_after_keep : (u : ChangeSet) (a : AttributeChange) (c : Content) (n : Names) (i : Item) → keeps u a i ≡ true → fits c n i ≡ true → DeleteAfterKeep u a c n i
delete_after_keep u a c n i p q =
    let ps = and_parts _ _ p in
    let qs = and_parts _ _ q in
    let e : c ≡ i.content = same_content-is c i.content qs.0 in
    record {
      can = and_from _ _ (subst (λ x. content_agrees a x ≡ true) (sym e) ps.1) (matches_all named_old n u (λ k. key_can_follow (get n k) (get u k) (get i.notes k) (at_named n i.notes k qs.1) (at_agrees u i.notes k ps.0)));
      fit = and_from _ _
          (ap (λ x. same_content (put_content a x) (put_content a i.content)) e ∙ same_content-refl (put_content a i.content))
          (matches_all named (names_after n u) (put u i.notes) (λ k. rw (at_names_after, at_put) (key_after (get n k) (get u k) (get i.notes k) (at_named n i.notes k qs.1))));
    }

-- ---- both delete

key_named_alike : (n o : Option (Option Key)) (v : Option Key) → named n v ≡ true → named o v ≡ true → named_alike n o ≡ true
key_named_alike None o v p q = refl
key_named_alike (Some n) None v p q = refl
key_named_alike (Some n) (Some o) v p q = rw (same_value-is n v p) (rw (same_value-is o v q) (same_value-refl v))

pub both_delete : (c d : Content) (n o : Names) (i : Item) → fits c n i ≡ true → fits d o i ≡ true → delete_alike c n d o ≡ true
both_delete c d n o i p q =
    let ps = and_parts _ _ p in
    let qs = and_parts _ _ q in
    let e : c ≡ i.content = same_content-is c i.content ps.0 in
    let f : d ≡ i.content = same_content-is d i.content qs.0 in
    and_from _ _ ((λ j. same_content (e j) (f j)) ∙ same_content-refl i.content)
    (matches_all named_alike n o (λ k. key_named_alike (get n k) (get o k) (get i.notes k) (at_named n i.notes k ps.1) (at_named o i.notes k qs.1)))

-- ---- an inserted item is kept by the other operation, or deleted by it

pub keep_all-keeps : (i : Item) → keeps empty Unchanged i ≡ true
keep_all-keeps i = and_from _ _ (empty_agrees i.notes) (by i.content)
  where
    by : (c : Content) → content_agrees Unchanged c ≡ true
    by (Character x) = refl
    by (Start k m) = refl
    by End = refl

pub keep_all-kept : (i : Item) → kept empty Unchanged i ≡ i
keep_all-kept i = λ j. record { content = by i.content j; notes = empty_put i.notes j }
  where
    by : (c : Content) → put_content Unchanged c ≡ c
    by (Character x) = refl
    by (Start k m) = refl
    by End = refl

key_own_names : (v : Option Key) → named (option_map Some v) v ≡ true
key_own_names None = refl
key_own_names (Some x) = same_value-refl (Some x)

pub delete_all-fits : (i : Item) → fits i.content (names_of i.notes) i ≡ true
delete_all-fits i = and_from _ _ (same_content-refl i.content) (matches_all named (names_of i.notes) i.notes (λ k. rw get-each (key_own_names (get i.notes k))))
