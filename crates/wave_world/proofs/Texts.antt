-- Texts stay texts where operations on a document pass each other and are composed.
--     text_writable         actions of texts have a spelling
--     transform_text, compose_text
use Rattle.std.proofs.Common.{◌≡◌, ◌≢◌, ℕ, zero, suc, Bool, true, false, cond, ◌&&◌, List, [], ◌∷◌, ◌++◌, Option, None, Some, Ok, Err, refl, sym, ap, subst, ◌∙◌}
use Rattle.std.specs.FinMap.{get, get-empty}
use Rattle.std.specs.Option.{option_map}
use Rattle.std.specs.Ordering.{nat_cmp}
use Rattle.std.specs.Cmp.Lexicographic.{slice_cmp}
use Rattle.std.specs.Str.{is_utf8}
use Rattle.std.proofs.lemmas.Bool.{and_parts, and_from}
use Rattle.doc_items.specs.Balance.{level}
use Rattle.doc_items.specs.Changes.{KeyChange, ChangeSet, turned, set_new, put, back, none_running}
use Rattle.doc_items.specs.Maps.{Key, Map}
use Rattle.doc_items.specs.declared.item.Item.{Item}
use Rattle.doc_items.proofs.Maps.{get-merge, get-each, alike}
use Rattle.change_view.specs.declared.rule.Rule.TheVariants.{Then}
use Rattle.change_view.specs.Rules.{one_over, one_under, one_then, combined}
use Rattle.change_view.specs.Sets.{fresh, one_from, start_at}
use Rattle.change_view.specs.Texts.{is_text_value, is_text_at, AreTexts}
use Rattle.change_view.proofs.Sets.{texts_joined, texts_back}
use Rattle.doc_op.specs.Actions.{AttributeChange, Unchanged, Update, Replace, Names, Action, Keep, Ins, Del}
use Rattle.doc_op.specs.Apply.{put_attributes, put_content, keeps, kept, fits, names_of}
use Rattle.doc_op.specs.Normal.{gone, to_absent, AreWritable}
use Rattle.doc_op.proofs.Applying.{no_value}
use Rattle.op_compose.specs.Chains.{follows, then, attributes_back, attributes_follow, attributes_then, one_name_before, names_before, can_precede}
use Rattle.op_compose.specs.Compose.{Composed, ahead, compose}
use Rattle.op_transform.specs.Crossing.{cross, over, under, is_empty, update_if_any, attributes_cross, attributes_over, attributes_under, one_name_after, names_after, can_follow, delete_alike, delete_all, keep_all}
use Rattle.op_transform.specs.Transform.{Both, Outcome, front, later_inserts, earlier_inserts, transform_from, transform}
use Rattle.op_transform.proofs.Keys.{not_empty}
use Rattle.op_transform.proofs.Outcomes.{no_ok, same_Ok, fronted, passed_ok}
use Rattle.wave_world.specs.Texts.{AreTextsIn, IsTextChange, AreText}

-- ---- the spelling

pub text_writable : (acts : List Action) → AreText acts → AreWritable acts
text_writable [] t = tt
text_writable (Keep u Unchanged ∷ acts) t = ((t.0).0, text_writable acts t.1)
text_writable (Keep u (Update c) ∷ acts) t = (((t.0).0, ((t.0).1).0, ((t.0).1).1), text_writable acts t.1)
text_writable (Keep u (Replace old new) ∷ acts) t = ((t.0).0, text_writable acts t.1)
text_writable (Ins x ∷ acts) t = (t.0, text_writable acts t.1)
text_writable (Del c n ∷ acts) t = (t.0, text_writable acts t.1)

append_text : (xs ys : List Action) → AreText xs → AreText ys → AreText (xs ++ ys)
append_text [] ys t s = s
append_text (x ∷ xs) ys t s = (t.0, append_text xs ys t.1 s)

-- ---- at one key

record IsTextKey (k : Key) (c : KeyChange) : Type 0 where
  key : is_utf8 k ≡ true
  old : is_text_value c.old ≡ true
  new : is_text_value c.new ≡ true

parts : (k : Key) (c : KeyChange) → is_text_at k (Some c) ≡ true → IsTextKey k c
parts k c h =
    let p = and_parts (is_utf8 k) (is_text_value c.old && is_text_value c.new) h in
    let q = and_parts (is_text_value c.old) (is_text_value c.new) p.1 in
    record { key = p.0; old = q.0; new = q.1 }

text_key : (k : Key) (old new : Option Key) → is_utf8 k ≡ true → is_text_value old ≡ true → is_text_value new ≡ true → is_text_at k (Some (record { old = old; new = new })) ≡ true
text_key k old new a b c = and_from _ _ a (and_from _ _ b c)

fresh_text : (k : Key) (v : Option Key) → is_utf8 k ≡ true → is_text_value v ≡ true → is_text_at k (option_map fresh v) ≡ true
fresh_text k None a b = refl
fresh_text k (Some x) a b = text_key k None (Some x) a refl b

value_text : (k : Key) (x : Key) → is_text_at k (option_map fresh (Some x)) ≡ true → is_text_value (Some x) ≡ true
value_text k x h = (parts k (fresh x) h).new

over_text : (k : Key) (u w : Option KeyChange) → is_text_at k u ≡ true → is_text_at k w ≡ true → is_text_at k (one_over u w) ≡ true
over_text k None w h g = refl
over_text k (Some u) None h g = h
over_text k (Some u) (Some w) h g = text_key k w.new u.new (parts k u h).key (parts k w g).new (parts k u h).new

under_text : (k : Key) (w u : Option KeyChange) → is_text_at k w ≡ true → is_text_at k (one_under w u) ≡ true
under_text k w None h = h
under_text k w (Some u) h = refl

from_text : (k : Key) (u : Option KeyChange) (v : Option Key) → is_text_at k u ≡ true → is_text_at k (option_map fresh v) ≡ true → is_text_at k (one_from u v) ≡ true
from_text k None v h g = refl
from_text k (Some u) None h g = text_key k None u.new (parts k u h).key refl (parts k u h).new
from_text k (Some u) (Some x) h g = text_key k (Some x) u.new (parts k u h).key (value_text k x g) (parts k u h).new

put_at : (k : Key) (c : Option KeyChange) (v : Option Key) → is_text_at k c ≡ true → is_text_at k (option_map fresh v) ≡ true → is_text_at k (option_map fresh (set_new c v)) ≡ true
put_at k None v h g = g
put_at k (Some c) v h g = fresh_text k c.new (parts k c h).key (parts k c h).new

all_named : (k : Key) (v : Option Key) → is_text_at k (option_map fresh v) ≡ true → is_text_at k (option_map gone (option_map Some v)) ≡ true
all_named k None h = refl
all_named k (Some x) h = text_key k (Some x) None (parts k (fresh x) h).key (parts k (fresh x) h).new refl

after_named : (k : Key) (n : Option (Option Key)) (c : Option KeyChange) → is_text_at k (option_map gone n) ≡ true → is_text_at k c ≡ true → is_text_at k (option_map gone (one_name_after n c)) ≡ true
after_named k n None h g = h
after_named k n (Some c) h g = text_key k c.new None (parts k c g).key (parts k c g).new refl

before_named : (k : Key) (n : Option (Option Key)) (c : Option KeyChange) → is_text_at k (option_map gone n) ≡ true → is_text_at k c ≡ true → is_text_at k (option_map gone (one_name_before n c)) ≡ true
before_named k n None h g = h
before_named k n (Some c) h g = text_key k c.old None (parts k c g).key (parts k c g).old refl

-- ---- whole maps

in_at : (m : Map Key) (k : Key) → AreTextsIn m → is_text_at k (option_map fresh (get m k)) ≡ true
in_at m k t = sym (ap (is_text_at k) (get-each fresh m k)) ∙ t k

in_all : (m : Map Key) → ((k : Key) → is_text_at k (option_map fresh (get m k)) ≡ true) → AreTextsIn m
in_all m h k = ap (is_text_at k) (get-each fresh m k) ∙ h k

names_at : (n : Names) (k : Key) → AreTexts (to_absent n) → is_text_at k (option_map gone (get n k)) ≡ true
names_at n k t = sym (ap (is_text_at k) (get-each gone n k)) ∙ t k

names_all : (n : Names) → ((k : Key) → is_text_at k (option_map gone (get n k)) ≡ true) → AreTexts (to_absent n)
names_all n h k = ap (is_text_at k) (get-each gone n k) ∙ h k

texts_none : AreTexts none_running
texts_none k = ap (is_text_at k) (get-empty (slice_cmp nat_cmp) k)

texts_over : (u w : ChangeSet) → AreTexts u → AreTexts w → AreTexts (over u w)
texts_over u w t s k = ap (is_text_at k) (get-merge one_over u w k refl) ∙ over_text k (get u k) (get w k) (t k) (s k)

texts_under : (w u : ChangeSet) → AreTexts w → AreTexts (under w u)
texts_under w u t k = ap (is_text_at k) (get-merge one_under w u k refl) ∙ under_text k (get w k) (get u k) (t k)

texts_start : (u : ChangeSet) (m : Map Key) → AreTexts u → AreTextsIn m → AreTexts (start_at u m)
texts_start u m t s k = ap (is_text_at k) (get-merge one_from u m k refl) ∙ from_text k (get u k) (get m k) (t k) (in_at m k s)

texts_put : (c : ChangeSet) (m : Map Key) → AreTexts c → AreTextsIn m → AreTextsIn (put c m)
texts_put c m t s = in_all (put c m) (λ k. ap (λ v. is_text_at k (option_map fresh v)) (get-merge set_new c m k refl) ∙ put_at k (get c k) (get m k) (t k) (in_at m k s))

texts_all_names : (m : Map Key) → AreTextsIn m → AreTexts (to_absent (names_of m))
texts_all_names m t = names_all (names_of m) (λ k. ap (λ v. is_text_at k (option_map gone v)) (get-each Some m k) ∙ all_named k (get m k) (in_at m k t))

texts_after : (n : Names) (c : ChangeSet) → AreTexts (to_absent n) → AreTexts c → AreTexts (to_absent (names_after n c))
texts_after n c t s = names_all (names_after n c) (λ k. ap (λ v. is_text_at k (option_map gone v)) (get-merge one_name_after n c k refl) ∙ after_named k (get n k) (get c k) (names_at n k t) (s k))

texts_before : (n : Names) (c : ChangeSet) → AreTexts (to_absent n) → AreTexts c → AreTexts (to_absent (names_before n c))
texts_before n c t s = names_all (names_before n c) (λ k. ap (λ v. is_text_at k (option_map gone v)) (get-merge one_name_before n c k refl) ∙ before_named k (get n k) (get c k) (names_at n k t) (s k))

-- ---- updates have a key

at_none : (c : ChangeSet) (q : Key) → c ≡ none_running → get c q ≡ None
at_none c q e = ap (λ x. get x q) e ∙ get-empty (slice_cmp nat_cmp) q

none_if : (c : ChangeSet) → ((q : Key) → get c q ≡ None) → c ≡ none_running
none_if c h = alike c none_running (λ q. h q ∙ sym (get-empty (slice_cmp nat_cmp) q))

none_over : (u w : Option KeyChange) → one_over u w ≡ None → u ≡ None
none_over None w e = refl
none_over (Some u) None e = no_value (sym e)
none_over (Some u) (Some w) e = no_value (sym e)

none_from : (u : Option KeyChange) (v : Option Key) → one_from u v ≡ None → u ≡ None
none_from None v e = refl
none_from (Some u) v e = no_value (sym e)

none_then : (w u : Option KeyChange) → one_then w u ≡ None → w ≡ None
none_then None u e = refl
none_then (Some w) None e = no_value (sym e)
none_then (Some w) (Some u) e = no_value (sym e)

none_turned : (c : Option KeyChange) → option_map turned c ≡ None → c ≡ None
none_turned None e = refl
none_turned (Some c) e = no_value (sym e)

full_over : (u w : ChangeSet) → u ≢ none_running → over u w ≢ none_running
full_over u w h e = h (none_if u (λ q. none_over (get u q) (get w q) (sym (get-merge one_over u w q refl) ∙ at_none (over u w) q e)))

full_start : (u : ChangeSet) (m : Map Key) → u ≢ none_running → start_at u m ≢ none_running
full_start u m h e = h (none_if u (λ q. none_from (get u q) (get m q) (sym (get-merge one_from u m q refl) ∙ at_none (start_at u m) q e)))

full_then : (w u : ChangeSet) → w ≢ none_running → then w u ≢ none_running
full_then w u h e = h (none_if w (λ q. none_then (get w q) (get u q) (sym (get-merge (combined Then) w u q refl) ∙ at_none (then w u) q e)))

full_back : (c : ChangeSet) → c ≢ none_running → back c ≢ none_running
full_back c h e = h (none_if c (λ q. none_turned (get c q) (sym (get-each turned c q) ∙ at_none (back c) q e)))

-- ---- attribute changes

any_text : (c : ChangeSet) → AreTexts c → IsTextChange (update_if_any c)
unfolding is_empty
any_text c t = elim (is_empty c) as (λ b. is_empty c ≡ b → IsTextChange (cond b Unchanged (Update c))) [
  | true ↦ λ e. tt
  | false ↦ λ e. (t, not_empty c e)
] refl

put_change : (a : AttributeChange) (m : Map Key) → IsTextChange a → AreTextsIn m → AreTextsIn (put_attributes a m)
put_change Unchanged m t s = s
put_change (Update c) m t s = texts_put c m t.0 s
put_change (Replace old new) m t s = t.1

change_over : (a b : AttributeChange) → IsTextChange a → IsTextChange b → IsTextChange (attributes_over a b)
change_over Unchanged b t s = tt
change_over (Update u) Unchanged t s = t
change_over (Update u) (Update w) t s = (texts_over u w t.0 s.0, full_over u w t.1)
change_over (Update u) (Replace m n) t s = (texts_start u n t.0 s.1, full_start u n t.1)
change_over (Replace m n) b t s = (put_change b m s t.0, t.1)

change_under : (b a : AttributeChange) → IsTextChange b → IsTextChange a → IsTextChange (attributes_under b a)
change_under Unchanged Unchanged t s = tt
change_under Unchanged (Update u) t s = tt
change_under Unchanged (Replace m n) t s = tt
change_under (Update w) Unchanged t s = t
change_under (Update w) (Update u) t s = any_text (under w u) (texts_under w u t.0)
change_under (Update w) (Replace m n) t s = tt
change_under (Replace m n) Unchanged t s = t
change_under (Replace m n) (Update u) t s = (texts_put u m s.0 t.0, texts_put u n s.0 t.1)
change_under (Replace m n) (Replace o p) t s = tt

change_then : (o a : AttributeChange) → IsTextChange o → IsTextChange a → IsTextChange (attributes_then o a)
change_then Unchanged a t s = s
change_then (Update w) Unchanged t s = t
change_then (Update w) (Update u) t s = (texts_joined Then w u t.0 s.0, full_then w u t.1)
change_then (Update w) (Replace n p) t s = (texts_put (back w) n (texts_back w t.0) s.0, s.1)
change_then (Replace m n) a t s = (t.0, put_change a n s t.1)

-- ---- the transform

abbrev BothText : Both → Type 0
BothText p = AreText p.0 × AreText p.1

abbrev IsTextOutcome : Outcome → Type 0
IsTextOutcome r = (p : Both) → r ≡ Ok p → BothText p

after_front : (f g : List Action) (r : Outcome) → AreText f → AreText g → IsTextOutcome r → IsTextOutcome (front f g r)
after_front f g r t s rest p is =
    let w = fronted f g r p is in
    let q = rest w.value w.had in
    subst BothText w.gives (append_text f w.value.0 t q.0, append_text g w.value.1 s q.1)

after_test : (k : ℕ) (b : Bool) (r : Outcome) → IsTextOutcome r → IsTextOutcome (cond b r (Err k))
after_test k b r rest p is = rest p (passed_ok k b r p is).rest

kept_all : AreText (keep_all ∷ [])
kept_all = ((texts_none, tt), tt)

deleted_all : (x : Item) → AreTextsIn x.notes → AreText (delete_all x ∷ [])
deleted_all x t = (texts_all_names x.notes t, tt)

later_row : (d : ℕ) (x : Item) (r : Outcome) → AreTextsIn x.notes → IsTextOutcome r → IsTextOutcome (later_inserts d x r)
later_row zero x r t rest = after_front (Ins x ∷ []) (keep_all ∷ []) r (t, tt) kept_all rest
later_row (suc d) x r t rest = after_front [] (delete_all x ∷ []) r tt (deleted_all x t) rest

earlier_row : (b : ℕ) (y : Item) (r : Outcome) → AreTextsIn y.notes → IsTextOutcome r → IsTextOutcome (earlier_inserts b y r)
earlier_row zero y r t rest = after_front (keep_all ∷ []) (Ins y ∷ []) r kept_all (t, tt) rest
earlier_row (suc b) y r t rest = after_front (delete_all y ∷ []) [] r (deleted_all y t) tt rest

text_from : (k b : ℕ) (ls : List Action) (d : ℕ) (es : List Action) → AreText ls → AreText es → IsTextOutcome (transform_from k b ls d es)
text_from k b (Ins x ∷ ls) d es t s = later_row d x _ t.0 (text_from k b ls d es t.1 s)
text_from k b [] d [] t s = λ p is. subst BothText (same_Ok is) (tt, tt)
text_from k b [] d (Ins y ∷ es) t s = earlier_row b y _ s.0 (text_from k b [] d es t s.1)
text_from k b (Keep u a ∷ ls) d (Ins y ∷ es) t s = earlier_row b y _ s.0 (text_from k b (Keep u a ∷ ls) d es t s.1)
text_from k b (Del c n ∷ ls) d (Ins y ∷ es) t s = earlier_row b y _ s.0 (text_from k b (Del c n ∷ ls) d es t s.1)
text_from k b (Keep u a ∷ ls) d (Keep w o ∷ es) t s =
    after_test k (cross u w && attributes_cross a o) _
    (after_front (Keep (over u w) (attributes_over a o) ∷ []) (Keep (under w u) (attributes_under o a) ∷ []) (transform_from (suc k) b ls d es)
    ((texts_over u w (t.0).0 (s.0).0, change_over a o (t.0).1 (s.0).1), tt)
    ((texts_under w u (s.0).0, change_under o a (s.0).1 (t.0).1), tt)
    (text_from (suc k) b ls d es t.1 s.1))
text_from k b (Keep u a ∷ ls) d (Del c n ∷ es) t s =
    after_test k (can_follow c n u a) _
    (after_front [] (Del (put_content a c) (names_after n u) ∷ []) (transform_from (suc k) b ls (level c d) es) tt (texts_after n u s.0 (t.0).0, tt) (text_from (suc k) b ls (level c d) es t.1 s.1))
text_from k b (Del c n ∷ ls) d (Keep w o ∷ es) t s =
    after_test k (can_follow c n w o) _
    (after_front (Del (put_content o c) (names_after n w) ∷ []) [] (transform_from (suc k) (level c b) ls d es) (texts_after n w t.0 (s.0).0, tt) tt (text_from (suc k) (level c b) ls d es t.1 s.1))
text_from k b (Del c n ∷ ls) d (Del p m ∷ es) t s = after_test k (delete_alike c n p m) _ (text_from (suc k) (level c b) ls (level p d) es t.1 s.1)
text_from k b [] d (Keep w o ∷ es) t s = λ p is. no_ok is
text_from k b [] d (Del c m ∷ es) t s = λ p is. no_ok is
text_from k b (Keep u a ∷ ls) d [] t s = λ p is. no_ok is
text_from k b (Del c n ∷ ls) d [] t s = λ p is. no_ok is

pub transform_text : (l e : List Action) (p : Both) → AreText l → AreText e → transform l e ≡ Ok p → AreText p.0 × AreText p.1
transform_text l e p t s is = text_from 0 0 l 0 e t s p is

-- ---- the composition

abbrev IsTextComposed : Composed → Type 0
IsTextComposed r = (c : List Action) → r ≡ Ok c → AreText c

after_ahead : (acts : List Action) (n : ℕ) (r : Composed) → AreText acts → IsTextComposed r → IsTextComposed (ahead acts n r)
after_ahead acts n (Ok more) t rest c is = subst AreText (same_Ok is) (append_text acts more t (rest more refl))
after_ahead acts n (Err place) t rest c is = no_ok is

after_fit : (b : Bool) (r : Composed) → IsTextComposed r → IsTextComposed (cond b r (Err 0))
after_fit b r rest c is = rest c (passed_ok 0 b r c is).rest

composed_text : (f s : List Action) → AreText f → AreText s → IsTextComposed (compose f s)
composed_text (Del c n ∷ f) s t r = after_ahead (Del c n ∷ []) 0 (compose f s) (t.0, tt) (composed_text f s t.1 r)
composed_text [] (Ins y ∷ s) t r = after_ahead (Ins y ∷ []) 0 (compose [] s) (r.0, tt) (composed_text [] s t r.1)
composed_text (Ins x ∷ f) (Ins y ∷ s) t r = after_ahead (Ins y ∷ []) 0 (compose (Ins x ∷ f) s) (r.0, tt) (composed_text (Ins x ∷ f) s t r.1)
composed_text (Keep w o ∷ f) (Ins y ∷ s) t r = after_ahead (Ins y ∷ []) 0 (compose (Keep w o ∷ f) s) (r.0, tt) (composed_text (Keep w o ∷ f) s t r.1)
composed_text (Ins x ∷ f) (Keep u a ∷ s) t r = after_fit (keeps u a x) _ (after_ahead (Ins (kept u a x) ∷ []) 1 (compose f s) (texts_put u x.notes (r.0).0 t.0, tt) (composed_text f s t.1 r.1))
composed_text (Ins x ∷ f) (Del c n ∷ s) t r = after_fit (fits c n x) _ (after_ahead [] 1 (compose f s) tt (composed_text f s t.1 r.1))
composed_text (Keep w o ∷ f) (Keep u a ∷ s) t r =
    after_fit (follows w u && attributes_follow o a) _
    (after_ahead (Keep (then w u) (attributes_then o a) ∷ []) 1 (compose f s) ((texts_joined Then w u (t.0).0 (r.0).0, change_then o a (t.0).1 (r.0).1), tt) (composed_text f s t.1 r.1))
composed_text (Keep w o ∷ f) (Del c n ∷ s) t r =
    after_fit (can_precede c n w o) _
    (after_ahead (Del (put_content (attributes_back o) c) (names_before n w) ∷ []) 1 (compose f s) (texts_before n w r.0 (t.0).0, tt) (composed_text f s t.1 r.1))
composed_text [] [] t r = λ c is. subst AreText (same_Ok is) tt
composed_text [] (Keep u a ∷ s) t r = λ c is. no_ok is
composed_text [] (Del k n ∷ s) t r = λ c is. no_ok is
composed_text (Ins x ∷ f) [] t r = λ c is. no_ok is
composed_text (Keep w o ∷ f) [] t r = λ c is. no_ok is

pub compose_text : (f s c : List Action) → AreText f → AreText s → compose f s ≡ Ok c → AreText c
compose_text f s c t r is = composed_text f s t r c is
