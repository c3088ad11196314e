-- Laws of the change sets made of others: equality, and that texts stay texts.
use Rattle.std.proofs.Common.{◌≡◌, Bool, true, false, cond, ◌&&◌, refl, sym, ap, ◌∙◌, true≢false, Option, None, Some, option_map, option_and_then}
use Rattle.std.specs.FinMap.{get}
use Rattle.std.specs.Str.{is_utf8}
use Rattle.std.proofs.lemmas.Bool.{and_parts, and_from}
use Rattle.doc_items.specs.Maps.{Key, Map, same_value}
use Rattle.doc_items.specs.Changes.{KeyChange, ChangeSet, turned, back}
use Rattle.doc_items.proofs.Maps.{alike, get-merge, get-each, get-picked, matches_at, matches_all, same_value-is, same_value-refl}
use Rattle.change_view.specs.declared.rule.Rule.{Rule}
use Rattle.change_view.specs.declared.rule.Rule.TheVariants.{Second, SecondTurned, Over, Under, Then, Unlike, Starting, Inserted, Deleted}
use Rattle.change_view.specs.declared.rule.Test.{Test}
use Rattle.change_view.specs.declared.rule.Test.TheVariants.{SameOld, NewIsOld, OldIsThere}
use Rattle.change_view.specs.Rules.{combined, passing, same_change}
use Rattle.change_view.specs.Sets.{joined, same_one, same_changes, one_from, start_at, fresh, from_absent, one_inserted, as_inserted, one_deleted, as_deleted}
use Rattle.change_view.specs.Texts.{is_text_value, is_text_change, is_text_at, AreTexts}

-- ---- two absent changes

pub rule_none : (r : Rule) → combined r None None ≡ None
rule_none Second = refl
rule_none SecondTurned = refl
rule_none Over = refl
rule_none Under = refl
rule_none Then = refl
rule_none Unlike = refl
rule_none Starting = refl
rule_none Inserted = refl
rule_none Deleted = refl

pub test_none : (t : Test) → passing t None None ≡ true
test_none SameOld = refl
test_none NewIsOld = refl
test_none OldIsThere = refl

-- ---- equality

pub same_change-is : (c d : KeyChange) → same_change c d ≡ true → c ≡ d
same_change-is c d e =
    let parts = and_parts (same_value c.old d.old) (same_value c.new d.new) e in
    λ i. record { old = same_value-is c.old d.old parts.0 i; new = same_value-is c.new d.new parts.1 i }

pub same_change-refl : (c : KeyChange) → same_change c c ≡ true
same_change-refl c = and_from _ _ (same_value-refl c.old) (same_value-refl c.new)

same_one-is : (c d : Option KeyChange) → same_one c d ≡ true → c ≡ d
same_one-is None None e = refl
same_one-is None (Some d) e = absurd (true≢false (sym e))
same_one-is (Some c) None e = absurd (true≢false (sym e))
same_one-is (Some c) (Some d) e = ap Some (same_change-is c d e)

same_one-refl : (c : Option KeyChange) → same_one c c ≡ true
same_one-refl None = refl
same_one-refl (Some c) = same_change-refl c

pub same_changes-is : (u w : ChangeSet) → same_changes u w ≡ true → u ≡ w
same_changes-is u w e = alike u w (λ q. same_one-is (get u q) (get w q) (matches_at same_one u w q refl e))

pub same_changes-refl : (u : ChangeSet) → same_changes u u ≡ true
same_changes-refl u = matches_all same_one u u (λ q. same_one-refl (get u q))

-- ---- texts

abbrev text3 : (k : Key) (a b : Option Key) → Bool
text3 k a b = is_utf8 k && (is_text_value a && is_text_value b)

record Texts (k : Key) (a b : Option Key) : Type 0 where
  pub key : is_utf8 k ≡ true
  pub old : is_text_value a ≡ true
  pub new : is_text_value b ≡ true

parts_of : (k : Key) (c : KeyChange) → is_text_change k c ≡ true → Texts k c.old c.new
parts_of k c h =
    let p = and_parts (is_utf8 k) (is_text_value c.old && is_text_value c.new) h in
    let q = and_parts (is_text_value c.old) (is_text_value c.new) p.1 in
    record { key = p.0; old = q.0; new = q.1 }

text_of : (k : Key) (c : KeyChange) → Texts k c.old c.new → is_text_change k c ≡ true
text_of k c t = and_from _ _ t.key (and_from _ _ t.old t.new)

turned_text : (k : Key) (c : KeyChange) → is_text_change k c ≡ true → is_text_change k (turned c) ≡ true
turned_text k c h = let t = parts_of k c h in text_of k (turned c) (record { key = t.key; old = t.new; new = t.old })

deleted_text : (k : Key) (c : Option KeyChange) → is_text_at k c ≡ true → is_text_at k (option_map one_deleted c) ≡ true
deleted_text k None h = refl
deleted_text k (Some c) h = let t = parts_of k c h in text_of k (one_deleted c) (record { key = t.key; old = t.old; new = refl })

fresh_text : (k : Key) (v : Option Key) → is_utf8 k ≡ true → is_text_value v ≡ true → is_text_at k (option_map fresh v) ≡ true
fresh_text k None p q = refl
fresh_text k (Some v) p q = and_from _ _ p q

inserted_text : (k : Key) (c : Option KeyChange) → is_text_at k c ≡ true → is_text_at k (option_and_then one_inserted c) ≡ true
inserted_text k None h = refl
inserted_text k (Some c) h = let t = parts_of k c h in fresh_text k c.new t.key t.new

text_rule : (r : Rule) (k : Key) (c d : Option KeyChange) → is_text_at k c ≡ true → is_text_at k d ≡ true → is_text_at k (combined r c d) ≡ true
text_rule Second k c None h g = h
text_rule Second k c (Some d) h g = g
text_rule SecondTurned k c None h g = h
text_rule SecondTurned k c (Some d) h g = turned_text k d g
text_rule Over k None d h g = refl
text_rule Over k (Some c) None h g = h
text_rule Over k (Some c) (Some d) h g = let s = parts_of k c h in let t = parts_of k d g in text_of k (record { old = d.new; new = c.new }) (record { key = s.key; old = t.new; new = s.new })
text_rule Under k c None h g = h
text_rule Under k c (Some d) h g = refl
text_rule Then k None d h g = g
text_rule Then k (Some c) None h g = h
text_rule Then k (Some c) (Some d) h g = let s = parts_of k c h in let t = parts_of k d g in text_of k (record { old = c.old; new = d.new }) (record { key = s.key; old = s.old; new = t.new })
text_rule Unlike k None d h g = refl
text_rule Unlike k (Some c) None h g = h
text_rule Unlike k (Some c) (Some d) h g = elim (same_change c d) as (λ b. is_text_at k (cond b None (Some c)) ≡ true) [ true ↦ refl | false ↦ h ]
text_rule Starting k None d h g = refl
text_rule Starting k (Some c) None h g = let s = parts_of k c h in text_of k (record { old = None; new = c.new }) (record { key = s.key; old = refl; new = s.new })
text_rule Starting k (Some c) (Some d) h g = let s = parts_of k c h in let t = parts_of k d g in text_of k (record { old = d.new; new = c.new }) (record { key = s.key; old = t.new; new = s.new })
text_rule Inserted k c d h g = inserted_text k c h
text_rule Deleted k c d h g = deleted_text k c h

pub texts_joined : (r : Rule) (u w : ChangeSet) → AreTexts u → AreTexts w → AreTexts (joined r u w)
texts_joined r u w h g k = ap (is_text_at k) (get-merge (combined r) u w k (rule_none r)) ∙ text_rule r k (get u k) (get w k) (h k) (g k)

back_text : (k : Key) (c : Option KeyChange) → is_text_at k c ≡ true → is_text_at k (option_map turned c) ≡ true
back_text k None h = refl
back_text k (Some c) h = turned_text k c h

pub texts_back : (u : ChangeSet) → AreTexts u → AreTexts (back u)
texts_back u h k = ap (is_text_at k) (get-each turned u k) ∙ back_text k (get u k) (h k)

pub texts_deleted : (u : ChangeSet) → AreTexts u → AreTexts (as_deleted u)
texts_deleted u h k = ap (is_text_at k) (get-each one_deleted u k) ∙ deleted_text k (get u k) (h k)

pub texts_inserted : (u : ChangeSet) → AreTexts u → AreTexts (as_inserted u)
texts_inserted u h k = ap (is_text_at k) (get-picked one_inserted u k) ∙ inserted_text k (get u k) (h k)

-- ---- from a map's values

one_started : (c : Option KeyChange) (v : Option Key) → combined Starting c (option_map fresh v) ≡ one_from c v
one_started None v = refl
one_started (Some c) None = refl
one_started (Some c) (Some v) = refl

pub starting_at : (u : ChangeSet) (m : Map Key) → joined Starting u (from_absent m) ≡ start_at u m
starting_at u m = alike _ _ (λ q.
    get-merge (combined Starting) u (from_absent m) q refl ∙ ap (combined Starting (get u q)) (get-each fresh m q) ∙ one_started (get u q) (get m q)
    ∙ sym (get-merge one_from u m q refl))

-- ---- of the first alone

pub joined_inserted : (u w : ChangeSet) → joined Inserted u w ≡ as_inserted u
joined_inserted u w = alike _ _ (λ q. get-merge (combined Inserted) u w q refl ∙ sym (get-picked one_inserted u q))

pub joined_deleted : (u w : ChangeSet) → joined Deleted u w ≡ as_deleted u
joined_deleted u w = alike _ _ (λ q. get-merge (combined Deleted) u w q refl ∙ sym (get-each one_deleted u q))
