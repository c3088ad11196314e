-- Change sets made of lists of changes.
--     get_change, get_unchanged     what a list with ascending keys makes of one of its keys, and of any other
--     with_changes_next, put_next, without_next     one change more, one key fewer
--     tested_*                      a test of each key, along the list
use Rattle.std.proofs.Common.{is_eq, Ordering, Less, Equal, Greater, zero, suc, ◌⊎◌, inl, inr, ◌≡◌, ℕ, ◌+◌, ◌<◌, Bool, true, false, cond, List, [], ◌∷◌, ◌++◌, length, take, get_or, refl, sym, ap, subst, ◌∙◌, arith, add-one, true≢false, below_more, Option, None, Some}
use Rattle.std.proofs.Math.Seq.{take-suc}
use Rattle.std.proofs.lemmas.List.{get_or_default}
use Rattle.std.specs.Str.{encode_utf8_all}
use Rattle.std.specs.Ordering.{nat_cmp, is_lt, eq_by_cmp}
use Rattle.std.specs.Cmp.Lexicographic.{slice_cmp}
use Rattle.std.proofs.lemmas.Cmp.{nat_list_cmp_total, eq_by_cmp_equiv}
use Rattle.std.specs.FinMap.{get, insert, remove, get-insert, get-remove, get-empty}
use Rattle.doc_items.specs.Maps.{Key, Map, set_key}
use Rattle.doc_items.specs.Changes.{KeyChange, ChangeSet, key_change, without, with_changes, change_set, none_running, before, AscendsFrom, IsAscending, fits_old, set_new, agrees, put}
use Rattle.doc_items.specs.declared.change.Change.{Change}
use Rattle.doc_items.proofs.Maps.{tie, tied, alike, get-merge, matches_at, matches_all}

abbrev pub at : Key → Key → Bool
at q k = eq_by_cmp (slice_cmp nat_cmp) q k

pub at-is : (q k : Key) → at q k ≡ true → q ≡ k
unfolding tie
at-is q k e = tied q k e

abbrev pub key : Change → Key
key c = encode_utf8_all c.key

-- ---- keys that ascend are distinct

pub less : (r : Ordering) → is_lt r ≡ true → r ≡ Less
less Less e = refl
less Equal e = absurd (true≢false (sym e))
less Greater e = absurd (true≢false (sym e))

not_equal : (r : Ordering) → is_lt r ≡ true → is_eq r ≡ false
not_equal Less e = refl
not_equal Equal e = absurd (true≢false (sym e))
not_equal Greater e = absurd (true≢false (sym e))

pub before_trans : (a b c : List ℕ) → before a b ≡ true → before b c ≡ true → before a c ≡ true
before_trans a b c p q = ap is_lt (nat_list_cmp_total.trans (encode_utf8_all a) (encode_utf8_all b) (encode_utf8_all c) (less _ p) (less _ q))

pub before_other : (a b : List ℕ) → before a b ≡ true → at (encode_utf8_all a) (encode_utf8_all b) ≡ false
before_other a b p = not_equal _ p

pub after_less : (k l : List ℕ) (cs : List Change) → before k l ≡ true → AscendsFrom (Some l) cs → AscendsFrom (Some k) cs
after_less k l [] b h = tt
after_less k l (c ∷ cs) b h = (before_trans k l c.key b h.0, h.1)

-- no change of the list is q's
unfoldable pub NoKey : Key → List Change → Type 0
NoKey q [] = Unit {0}
NoKey q (c ∷ cs) = (at q (key c) ≡ false) × NoKey q cs

pub none_behind : (k : List ℕ) (cs : List Change) → AscendsFrom (Some k) cs → NoKey (encode_utf8_all k) cs
unfolding NoKey
none_behind k [] h = tt
none_behind k (c ∷ cs) h = (before_other k c.key h.0, none_behind k cs (after_less k c.key cs h.0 h.1))

pub get_past : (cs : List Change) (u : ChangeSet) (q : Key) → NoKey q cs → get (with_changes u cs) q ≡ get u q
unfolding NoKey
get_past [] u q h = refl
get_past (c ∷ cs) u q h = get_past cs (insert u (key c) (key_change c)) q h.1
    ∙ get-insert nat_list_cmp_total u (key c) (key_change c) q ∙ ap (λ b. cond b (Some (key_change c)) (get u q)) h.0

get_own : (u : ChangeSet) (k : Key) (c : KeyChange) → get (insert u k c) k ≡ Some c
get_own u k c = get-insert nat_list_cmp_total u k c k ∙ ap (λ b. cond b (Some c) (get u k)) ((eq_by_cmp_equiv nat_list_cmp_total).refl k)

get_at : (cs : List Change) (u : ChangeSet) (p : Option (List ℕ)) (i : ℕ) (c : Change) → AscendsFrom p cs → i < length cs → c ≡ get_or cs i c
    → get (with_changes u cs) (key c) ≡ Some (key_change c)
get_at [] u p i c h lt is = absurd (omega (arith, lt))
get_at (d ∷ ds) u p zero c h lt is =
    subst (λ (x : Change). get (with_changes u (d ∷ ds)) (key x) ≡ Some (key_change x)) (sym is)
    (get_past ds (insert u (key d) (key_change d)) (key d) (none_behind d.key ds h.1) ∙ get_own u (key d) (key_change d))
get_at (d ∷ ds) u p (suc i) c h lt is = get_at ds (insert u (key d) (key_change d)) (Some d.key) i c h.1 (omega (arith, lt)) is

pub get_change : (cs : List Change) (i : ℕ) (c : Change) → IsAscending cs → i < length cs → c ≡ get_or cs i c → get (change_set cs) (encode_utf8_all c.key) ≡ Some (key_change c)
get_change cs i c h lt is = get_at cs none_running None i c h lt is

pub get_unchanged : (cs : List Change) (q : Key) → NoKey q cs → get (change_set cs) q ≡ None
get_unchanged cs q h = get_past cs none_running q h ∙ get-empty (slice_cmp nat_cmp) q

-- ---- a test of each key

-- the first n changes fit the map
abbrev pub FitBelow : ℕ → List Change → Map Key → Type 0
FitBelow n cs m = (i : ℕ) → i < n → (d : Change) → fits_old (Some (key_change (get_or cs i d))) (get m (key (get_or cs i d))) ≡ true

pub fit_more : (n : ℕ) (cs : List Change) (m : Map Key) (c : Change) → n < length cs → c ≡ get_or cs n c → fits_old (Some (key_change c)) (get m (key c)) ≡ true → FitBelow n cs m → FitBelow (n + 1) cs m
fit_more n cs m c lt is now below = below_more _ _ below (λ d. subst (λ (x : Change). fits_old (Some (key_change x)) (get m (key x)) ≡ true) (is ∙ get_or_default cs n c d lt) now)

key_or_none : (cs : List Change) (q : Key) → ((i : ℕ) × (c : Change) × (i < length cs) × (c ≡ get_or cs i c) × (q ≡ key c)) ⊎ NoKey q cs
unfolding NoKey
key_or_none [] q = inr tt
key_or_none (c ∷ cs) q = elim (at q (key c)) as (λ b. at q (key c) ≡ b → ((i : ℕ) × (d : Change) × (i < length (c ∷ cs)) × (d ≡ get_or (c ∷ cs) i d) × (q ≡ key d)) ⊎ NoKey q (c ∷ cs)) [
  | true ↦ λ t. inl (0, c, omega arith, refl, at-is q (key c) t)
  | false ↦ λ t. elim (key_or_none cs q) [
    | inl r ↦ inl (suc r.0, r.1, omega (arith, r.2), r.3, r.4)
    | inr n ↦ inr (t, n)
  ]
] refl

pub all_fit : (cs : List Change) (m : Map Key) → IsAscending cs → FitBelow (length cs) cs m → agrees (change_set cs) m ≡ true
all_fit cs m h below = matches_all fits_old (change_set cs) m (λ q. elim (key_or_none cs q) [
  | inl r ↦ subst (λ (x : Key). fits_old (get (change_set cs) x) (get m x) ≡ true) (sym r.4)
      (ap (λ x. fits_old x (get m (key r.1))) (get_change cs r.0 r.1 h r.2 r.3) ∙ subst (λ (x : Change). fits_old (Some (key_change x)) (get m (key x)) ≡ true) (sym r.3) (below r.0 r.2 r.1))
  | inr n ↦ ap (λ x. fits_old x (get m q)) (get_unchanged cs q n)
])

pub one_misfits : (cs : List Change) (m : Map Key) (i : ℕ) (c : Change) → IsAscending cs → i < length cs → c ≡ get_or cs i c → fits_old (Some (key_change c)) (get m (key c)) ≡ false → agrees (change_set cs) m ≡ false
one_misfits cs m i c h lt is e = elim (agrees (change_set cs) m) as (λ b. agrees (change_set cs) m ≡ b → b ≡ false) [
  | true ↦ λ t. absurd (true≢false (sym (matches_at fits_old (change_set cs) m (key c) refl t) ∙ ap (λ x. fits_old x (get m (key c))) (get_change cs i c h lt is) ∙ e))
  | false ↦ λ t. refl
] refl

-- ---- one change more

pub with_changes-append : (u : ChangeSet) (xs ys : List Change) → with_changes u (xs ++ ys) ≡ with_changes (with_changes u xs) ys
with_changes-append u [] ys = refl
with_changes-append u (x ∷ xs) ys = with_changes-append (insert u (key x) (key_change x)) xs ys

pub with_changes_next : (u : ChangeSet) (cs : List Change) (i : ℕ) (c : Change) → i < length cs → c ≡ get_or cs i c
    → with_changes u (take (i + 1) cs) ≡ insert (with_changes u (take i cs)) (encode_utf8_all c.key) (key_change c)
with_changes_next u cs i c h is = ap (with_changes u) (ap (λ n. take n cs) (add-one i) ∙ take-suc cs i c h) ∙ with_changes-append u (take i cs) (get_or cs i c ∷ []) ∙ ap (λ x. insert (with_changes u (take i cs)) (key x) (key_change x)) (sym is)

-- ---- one key fewer

without-append : (u : ChangeSet) (xs ys : List (List ℕ)) → without u (xs ++ ys) ≡ without (without u xs) ys
without-append u [] ys = refl
without-append u (x ∷ xs) ys = without-append (remove u (encode_utf8_all x)) xs ys

pub without_next : (u : ChangeSet) (ks : List (List ℕ)) (i : ℕ) (k : List ℕ) → i < length ks → k ≡ get_or ks i k
    → without u (take (i + 1) ks) ≡ remove (without u (take i ks)) (encode_utf8_all k)
without_next u ks i k h is = ap (without u) (ap (λ n. take n ks) (add-one i) ∙ take-suc ks i k h) ∙ without-append u (take i ks) (get_or ks i k ∷ []) ∙ ap (λ x. remove (without u (take i ks)) (encode_utf8_all x)) (sym is)

new_at : (b : Bool) (c : KeyChange) (o : Option KeyChange) (v : Option Key) → set_new (cond b (Some c) o) v ≡ cond b c.new (set_new o v)
new_at true c o v = refl
new_at false c o v = refl

get-set_key : (m : Map Key) (k : Key) (v : Option Key) (q : Key) → get (set_key m k v) q ≡ cond (at q k) v (get m q)
get-set_key m k None q = get-remove nat_list_cmp_total m k q
get-set_key m k (Some v) q = get-insert nat_list_cmp_total m k v q

pub put_next : (u : ChangeSet) (k : Key) (c : KeyChange) (m : Map Key) → put (insert u k c) m ≡ set_key (put u m) k c.new
put_next u k c m = alike _ _ (λ q.
    get-merge set_new (insert u k c) m q refl ∙ ap (λ o. set_new o (get m q)) (get-insert nat_list_cmp_total u k c q)
    ∙ new_at (at q k) c (get u q) (get m q) ∙ ap (cond (at q k) c.new) (sym (get-merge set_new u m q refl))
    ∙ sym (get-set_key (put u m) k c.new q))

pub put_none : (m : Map Key) → put none_running m ≡ m
put_none m = alike _ _ (λ q. get-merge set_new none_running m q refl ∙ ap (λ o. set_new o (get m q)) (get-empty (slice_cmp nat_cmp) q))

pub agrees_none : (m : Map Key) → agrees none_running m ≡ true
agrees_none m = matches_all fits_old none_running m (λ q. ap (λ o. fits_old o (get m q)) (get-empty (slice_cmp nat_cmp) q))
