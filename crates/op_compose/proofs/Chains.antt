-- The rows of the composition at one item.
--     Both p q r s      two tests pass together exactly where two others do
--     keep_keep, keep_keep_out     one change and then another
--     keep_delete                  a change and then a deletion
use Rattle.std.proofs.Common.{◌≡◌, Bool, true, false, ◌&&◌, refl, sym, ap, subst, ◌∙◌, true≢false, Option, None, Some}
use Rattle.std.specs.Option.{option_map}
use Rattle.std.specs.FinMap.{get}
use Rattle.std.specs.Cmp.Lexicographic.{bytes_decides}
use Rattle.std.proofs.lemmas.Bool.{and_parts, and_from, eq-eqb}
use Rattle.doc_items.specs.Maps.{Key, Map, same_value, same_values, matches}
use Rattle.doc_items.specs.Changes.{KeyChange, ChangeSet, turned, fits_old, set_new, agrees, put, back}
use Rattle.doc_items.specs.declared.item.Content.{Content}
use Rattle.doc_items.specs.declared.item.Content.TheVariants.{Character, Start, End}
use Rattle.doc_items.specs.declared.item.Item.{Item}
use Rattle.doc_items.proofs.Maps.{get-merge, get-each, matches_at, matches_all, same_value-is, same_value-refl, same_values-is, same_values-refl, alike}
use Rattle.change_view.specs.Rules.{new_is_old, one_then}
use Rattle.doc_op.specs.Actions.{AttributeChange, Unchanged, Update, Replace, Names}
use Rattle.doc_op.specs.Apply.{attributes_agree, put_attributes, is_unchanged, content_agrees, put_content, same_content, keeps, kept, named, fits}
use Rattle.doc_op.proofs.Applying.{same_content-is}
use Rattle.op_compose.specs.Chains.{follows, then, attributes_back, attributes_follow, attributes_then, named_new, one_name_before, names_before, can_precede}

pub same_content-refl : (c : Content) → same_content c c ≡ true
same_content-refl (Character x) = eq-eqb x x refl
same_content-refl (Start k m) = and_from _ _ ((bytes_decides k k).1 refl) (same_values-refl m)
same_content-refl End = refl

at_put : (c : ChangeSet) (m : Map Key) (q : Key) → get (put c m) q ≡ set_new (get c q) (get m q)
at_put c m q = get-merge set_new c m q refl

at_agrees : (c : ChangeSet) (m : Map Key) (q : Key) → agrees c m ≡ true → fits_old (get c q) (get m q) ≡ true
at_agrees c m q h = matches_at fits_old c m q refl h

-- two tests pass together exactly where two others do
pub record Both (p q r s : Bool) : Type 0 where
  pub forth : p ≡ true → q ≡ true → (r ≡ true) × (s ≡ true)
  pub back : r ≡ true → s ≡ true → (p ≡ true) × (q ≡ true)

pub same_and : (p q r s : Bool) → Both p q r s → (p && q) ≡ (r && s)
same_and true true r s h = let k = h.forth refl refl in sym (and_from _ _ k.0 k.1)
same_and true false true true h = (h.back refl refl).1
same_and true false true false h = refl
same_and true false false s h = refl
same_and false q true true h = (h.back refl refl).0
same_and false q true false h = refl
same_and false q false s h = refl

same_flip : (a b : Option Key) → same_value a b ≡ true → same_value b a ≡ true
same_flip a b e = subst (λ x. same_value b x ≡ true) (sym (same_value-is a b e)) (same_value-refl b)

-- ---- at one key

key_then : (w u : Option KeyChange) (v : Option Key) → Both (fits_old w v) (fits_old u (set_new w v)) (new_is_old w u) (fits_old (one_then w u) v)
key_then None u v = record { forth = λ p q. (refl, q); back = λ r s. (refl, s) }
key_then (Some w) None v = record { forth = λ p q. (refl, p); back = λ r s. (s, refl) }
key_then (Some w) (Some u) v = record { forth = λ p q. (same_flip u.old w.new q, p); back = λ r s. (s, same_flip w.new u.old r) }

key_then_put : (w u : Option KeyChange) (v : Option Key) → set_new u (set_new w v) ≡ set_new (one_then w u) v
key_then_put None u v = refl
key_then_put (Some w) None v = refl
key_then_put (Some w) (Some u) v = refl

key_back : (w : Option KeyChange) (v : Option Key) → fits_old (option_map turned w) (set_new w v) ≡ true
key_back None v = refl
key_back (Some w) v = same_value-refl w.new

key_back_put : (w : Option KeyChange) (v : Option Key) → fits_old w v ≡ true → set_new (option_map turned w) (set_new w v) ≡ v
key_back_put None v p = refl
key_back_put (Some w) v p = same_value-is w.old v p

key_back_back : (w : Option KeyChange) → option_map turned (option_map turned w) ≡ w
key_back_back None = refl
key_back_back (Some w) = refl

key_before : (n : Option (Option Key)) (w : Option KeyChange) (v : Option Key) → Both (fits_old w v) (named n (set_new w v)) (named_new n w) (named (one_name_before n w) v)
key_before None None v = record { forth = λ p q. (refl, q); back = λ r s. (refl, s) }
key_before (Some n) None v = record { forth = λ p q. (refl, q); back = λ r s. (refl, s) }
key_before None (Some w) v = record { forth = λ p q. (refl, p); back = λ r s. (s, refl) }
key_before (Some n) (Some w) v = record { forth = λ p q. (q, p); back = λ r s. (s, r) }

-- ---- of whole sets

at_then : (w u : ChangeSet) (q : Key) → get (then w u) q ≡ one_then (get w q) (get u q)
at_then w u q = get-merge one_then w u q refl

at_back : (w : ChangeSet) (q : Key) → get (back w) q ≡ option_map turned (get w q)
at_back w q = get-each turned w q

at_before : (n : Names) (w : ChangeSet) (q : Key) → get (names_before n w) q ≡ one_name_before (get n q) (get w q)
at_before n w q = get-merge one_name_before n w q refl

changes_then : (w u : ChangeSet) (m : Map Key) → Both (agrees w m) (agrees u (put w m)) (follows w u) (agrees (then w u) m)
changes_then w u m = record {
  forth = λ p q.
      let at : (k : Key) → _ = λ k. (key_then (get w k) (get u k) (get m k)).forth (at_agrees w m k p) (rw at_put at (at_agrees u (put w m) k q)) in
      (matches_all new_is_old w u (λ k. (at k).0), matches_all fits_old (then w u) m (λ k. rw at_then (at k).1));
  back = λ r s.
      let at : (k : Key) → _ = λ k. (key_then (get w k) (get u k) (get m k)).back (matches_at new_is_old w u k refl r) (rw at_then at (at_agrees (then w u) m k s)) in
      (matches_all fits_old w m (λ k. (at k).0), matches_all fits_old u (put w m) (λ k. rw at_put (at k).1));
}

then_put : (w u : ChangeSet) (m : Map Key) → put u (put w m) ≡ put (then w u) m
then_put w u m = alike _ _ (λ k. simp (at_put, at_then) (key_then_put (get w k) (get u k) (get m k)))

back_agrees : (w : ChangeSet) (m : Map Key) → agrees (back w) (put w m) ≡ true
back_agrees w m = matches_all fits_old (back w) (put w m) (λ k. rw (at_back, at_put) (key_back (get w k) (get m k)))

back_put : (w : ChangeSet) (m : Map Key) → agrees w m ≡ true → put (back w) (put w m) ≡ m
back_put w m p = alike _ _ (λ k. simp (at_put, at_back) (key_back_put (get w k) (get m k) (at_agrees w m k p)))

back_back : (w : ChangeSet) → back (back w) ≡ w
back_back w = alike _ _ (λ k. simp at_back (key_back_back (get w k)))

-- ---- attribute changes

attributes_back_agrees : (o : AttributeChange) (m : Map Key) → attributes_agree (attributes_back o) (put_attributes o m) ≡ true
attributes_back_agrees Unchanged m = refl
attributes_back_agrees (Update w) m = back_agrees w m
attributes_back_agrees (Replace k n) m = same_values-refl n

attributes_back_put : (o : AttributeChange) (m : Map Key) → attributes_agree o m ≡ true → put_attributes (attributes_back o) (put_attributes o m) ≡ m
attributes_back_put Unchanged m p = refl
attributes_back_put (Update w) m p = back_put w m p
attributes_back_put (Replace k n) m p = same_values-is k m p

attributes_back_back : (o : AttributeChange) → attributes_back (attributes_back o) ≡ o
attributes_back_back Unchanged = refl
attributes_back_back (Update w) = ap Update (back_back w)
attributes_back_back (Replace k n) = refl

pub record AttributesThen (o a : AttributeChange) (m : Map Key) : Type 0 where
  pub tests : Both (attributes_agree o m) (attributes_agree a (put_attributes o m)) (attributes_follow o a) (attributes_agree (attributes_then o a) m)
  pub out : attributes_agree o m ≡ true → attributes_agree a (put_attributes o m) ≡ true → put_attributes a (put_attributes o m) ≡ put_attributes (attributes_then o a) m

attributes_chain : (o a : AttributeChange) (m : Map Key) → AttributesThen o a m
attributes_chain Unchanged a m = record { tests = record { forth = λ p q. (refl, q); back = λ r s. (refl, s) }; out = λ p q. refl }
attributes_chain (Update w) Unchanged m = record { tests = record { forth = λ p q. (refl, p); back = λ r s. (s, refl) }; out = λ p q. refl }
attributes_chain (Update w) (Update u) m = record { tests = changes_then w u m; out = λ p q. then_put w u m }
attributes_chain (Update w) (Replace n k) m = record {
  tests = record {
    forth = λ p q.
        let e : n ≡ put w m = same_values-is n (put w m) q in
        (ap (agrees (back w)) e ∙ back_agrees w m, ap (λ x. same_values (put (back w) x) m) e ∙ ap (λ x. same_values x m) (back_put w m p) ∙ same_values-refl m);
    back = λ r s.
        let e : put (back w) n ≡ m = same_values-is (put (back w) n) m s in
        let f : put w (put (back w) n) ≡ n = subst (λ x. put x (put (back w) n) ≡ n) (back_back w) (back_put (back w) n r) in (
          subst (λ x. agrees w x ≡ true) e (subst (λ x. agrees x (put (back w) n) ≡ true) (back_back w) (back_agrees (back w) n)),
          ap (λ x. same_values n (put w x)) (sym e) ∙ ap (same_values n) f ∙ same_values-refl n,
        );
  };
  out = λ p q. refl;
}
attributes_chain (Replace k n) a m = record { tests = record { forth = λ p q. (q, p); back = λ r s. (s, r) }; out = λ p q. refl }

-- ---- contents

pub record ContentThen (o a : AttributeChange) (c : Content) : Type 0 where
  pub tests : Both (content_agrees o c) (content_agrees a (put_content o c)) (attributes_follow o a) (content_agrees (attributes_then o a) c)
  pub out : content_agrees o c ≡ true → content_agrees a (put_content o c) ≡ true → put_content a (put_content o c) ≡ put_content (attributes_then o a) c

bare : (o a : AttributeChange) → Both (is_unchanged o) (is_unchanged a) (attributes_follow o a) (is_unchanged (attributes_then o a))
bare Unchanged a = record { forth = λ p q. (refl, q); back = λ r s. (refl, s) }
bare (Update w) Unchanged = record { forth = λ p q. (refl, p); back = λ r s. (s, refl) }
bare (Update w) (Update u) = record { forth = λ p q. absurd (true≢false (sym p)); back = λ r s. absurd (true≢false (sym s)) }
bare (Update w) (Replace n k) = record { forth = λ p q. absurd (true≢false (sym p)); back = λ r s. absurd (true≢false (sym s)) }
bare (Replace k n) a = record { forth = λ p q. absurd (true≢false (sym p)); back = λ r s. absurd (true≢false (sym s)) }

content_chain : (o a : AttributeChange) (c : Content) → ContentThen o a c
content_chain o a (Character x) = record { tests = bare o a; out = λ p q. refl }
content_chain o a (Start kind m) = let h = attributes_chain o a m in record { tests = h.tests; out = λ p q. ap (Start kind) (h.out p q) }
content_chain o a End = record { tests = bare o a; out = λ p q. refl }

content_back_agrees : (o : AttributeChange) (c : Content) → content_agrees o c ≡ true → content_agrees (attributes_back o) (put_content o c) ≡ true
content_back_agrees Unchanged (Character x) p = refl
content_back_agrees (Update w) (Character x) p = p
content_back_agrees (Replace k n) (Character x) p = p
content_back_agrees o (Start kind m) p = attributes_back_agrees o m
content_back_agrees Unchanged End p = refl
content_back_agrees (Update w) End p = p
content_back_agrees (Replace k n) End p = p

content_back_put : (o : AttributeChange) (c : Content) → content_agrees o c ≡ true → put_content (attributes_back o) (put_content o c) ≡ c
content_back_put o (Character x) p = refl
content_back_put o (Start kind m) p = ap (Start kind) (attributes_back_put o m p)
content_back_put o End p = refl

content_before : (o : AttributeChange) (c i : Content) → Both (content_agrees o i) (same_content c (put_content o i)) (content_agrees (attributes_back o) c) (same_content (put_content (attributes_back o) c) i)
content_before o c i = record {
  forth = λ p q.
      let e : c ≡ put_content o i = same_content-is c (put_content o i) q in (
        ap (content_agrees (attributes_back o)) e ∙ content_back_agrees o i p,
        ap (λ x. same_content (put_content (attributes_back o) x) i) e ∙ ap (λ x. same_content x i) (content_back_put o i p) ∙ same_content-refl i,
      );
  back = λ r s.
      let e : put_content (attributes_back o) c ≡ i = same_content-is (put_content (attributes_back o) c) i s in
      let f : put_content o (put_content (attributes_back o) c) ≡ c = subst (λ x. put_content x (put_content (attributes_back o) c) ≡ c) (attributes_back_back o) (content_back_put (attributes_back o) c r) in (
        subst (λ x. content_agrees o x ≡ true) e (subst (λ x. content_agrees x (put_content (attributes_back o) c) ≡ true) (attributes_back_back o) (content_back_agrees (attributes_back o) c r)),
        ap (λ x. same_content c (put_content o x)) (sym e) ∙ ap (same_content c) f ∙ same_content-refl c,
      );
}

-- ---- one item

-- two pairs of tests, each pair against a pair
crossed : (a b c d p q r s : Bool) → Both a c p q → Both b d r s → Both (a && b) (c && d) (p && r) (q && s)
crossed a b c d p q r s h k = record {
  forth = λ x y. let i = and_parts a b x in let j = and_parts c d y in let m = h.forth i.0 j.0 in let n = k.forth i.1 j.1 in (and_from _ _ m.0 n.0, and_from _ _ m.1 n.1);
  back = λ x y. let i = and_parts p r x in let j = and_parts q s y in let m = h.back i.0 j.0 in let n = k.back i.1 j.1 in (and_from _ _ m.0 n.0, and_from _ _ m.1 n.1);
}

pub keep_keep : (w u : ChangeSet) (o a : AttributeChange) (i : Item) → Both (keeps w o i) (keeps u a (kept w o i)) (follows w u && attributes_follow o a) (keeps (then w u) (attributes_then o a) i)
keep_keep w u o a i = crossed _ _ _ _ _ _ _ _ (changes_then w u i.notes) (content_chain o a i.content).tests

pub keep_keep_out : (w u : ChangeSet) (o a : AttributeChange) (i : Item) → keeps w o i ≡ true → keeps u a (kept w o i) ≡ true → kept u a (kept w o i) ≡ kept (then w u) (attributes_then o a) i
keep_keep_out w u o a i p q =
    let e = (content_chain o a i.content).out (and_parts _ _ p).1 (and_parts _ _ q).1 in
    λ j. record { content = e j; notes = then_put w u i.notes j }

names_chain : (n : Names) (w : ChangeSet) (m : Map Key) → Both (agrees w m) (matches named n (put w m)) (matches named_new n w) (matches named (names_before n w) m)
names_chain n w m = record {
  forth = λ p q.
      let at : (k : Key) → _ = λ k. (key_before (get n k) (get w k) (get m k)).forth (at_agrees w m k p) (rw at_put at (matches_at named n (put w m) k refl q)) in
      (matches_all named_new n w (λ k. (at k).0), matches_all named (names_before n w) m (λ k. rw at_before (at k).1));
  back = λ r s.
      let at : (k : Key) → _ = λ k. (key_before (get n k) (get w k) (get m k)).back (matches_at named_new n w k refl r) (rw at_before at (matches_at named (names_before n w) m k refl s)) in
      (matches_all fits_old w m (λ k. (at k).0), matches_all named n (put w m) (λ k. rw at_put (at k).1));
}

pub keep_delete : (w : ChangeSet) (o : AttributeChange) (c : Content) (n : Names) (i : Item) → Both (keeps w o i) (fits c n (kept w o i)) (can_precede c n w o) (fits (put_content (attributes_back o) c) (names_before n w) i)
keep_delete w o c n i =
    let h = names_chain n w i.notes in
    let k = content_before o c i.content in
    record {
      forth = λ x y.
          let p = and_parts _ _ x in let q = and_parts _ _ y in let m = h.forth p.0 q.1 in let l = k.forth p.1 q.0 in
          (and_from _ _ l.0 m.0, and_from _ _ l.1 m.1);
      back = λ x y.
          let p = and_parts _ _ x in let q = and_parts _ _ y in let m = h.back p.1 q.1 in let l = k.back p.0 q.0 in
          (and_from _ _ m.0 l.0, and_from _ _ l.1 m.1);
    }
