-- What a switch more, or one that is turned, changes of the keys that run.
use Rattle.std.proofs.Common.{◌≡◌, ℕ, ◌+◌, ◌<◌, Bool, true, false, cond, ◌||◌, List, length, get_or, refl, sym, ap, subst, ◌∙◌, true≢false, below_more, Option, None, Some, is_some}
use Rattle.std.proofs.lemmas.List.{get_or_default}
use Rattle.std.specs.Str.{encode_utf8_all}
use Rattle.std.specs.Ordering.{nat_cmp, eq_by_cmp}
use Rattle.std.specs.Cmp.Lexicographic.{slice_cmp}
use Rattle.std.proofs.lemmas.Cmp.{nat_list_cmp_total, eq_by_cmp_equiv}
use Rattle.std.specs.FinMap.{get, contains_key, insert, remove, get-insert, get-remove, get-empty, empty}
use Rattle.doc_items.specs.Maps.{Key, Map}
use Rattle.doc_items.specs.Changes.{KeyChange, ChangeSet}
use Rattle.doc_items.specs.declared.change.Change.{Change}
use Rattle.doc_items.proofs.Maps.{tie, tied}
use Rattle.doc_op.specs.Running.{is_on, on_at, IsThere, AreThereBelow, IsSwitched, Follows, SameSwitches, KeepsThere}

abbrev at : Key → Key → Bool
at q k = eq_by_cmp (slice_cmp nat_cmp) q k

at-is : (q k : Key) → at q k ≡ true → q ≡ k
unfolding tie
at-is q k e = tied q k e

on_cond : (b v : Bool) (o : Option Bool) → is_on (cond b (Some v) o) ≡ cond b v (is_on o)
on_cond true v o = refl
on_cond false v o = refl

some_cond : {X : Type 0} (b : Bool) (x : X) (o : Option X) → is_some (cond b (Some x) o) ≡ cond b true (is_some o)
some_cond true x o = refl
some_cond false x o = refl

none_cond : {X : Type 0} (b : Bool) (o : Option X) → is_some (cond b None o) ≡ cond b false (is_some o)
none_cond true o = refl
none_cond false o = refl

on-insert : (m : Map Bool) (k : Key) (v : Bool) (q : Key) → on_at (insert m k v) q ≡ cond (at q k) v (on_at m q)
on-insert m k v q = ap is_on (get-insert nat_list_cmp_total m k v q) ∙ on_cond (at q k) v (get m q)

there-insert-at : {X : Type 0} (m : Map X) (k : Key) (x : X) (q : Key) → contains_key (insert m k x) q ≡ cond (at q k) true (contains_key m q)
there-insert-at m k x q = ap is_some (get-insert nat_list_cmp_total m k x q) ∙ some_cond (at q k) x (get m q)

there-remove-at : {X : Type 0} (m : Map X) (k q : Key) → contains_key (remove m k) q ≡ cond (at q k) false (contains_key m q)
there-remove-at m k q = ap is_some (get-remove nat_list_cmp_total m k q) ∙ none_cond (at q k) (get m q)

absent_off : (o : Option Bool) → is_some o ≡ false → is_on o ≡ false
absent_off None e = refl
absent_off (Some b) e = absurd (true≢false e)

-- a switch more, which is off
pub same-insert : (m : Map Bool) (k : Key) → contains_key m k ≡ false → SameSwitches m (insert m k false)
same-insert m k e q = on-insert m k false q ∙ elim (at q k) as (λ b. at q k ≡ b → cond b false (on_at m q) ≡ on_at m q) [
  | true ↦ λ t. sym (ap (on_at m) (at-is q k t) ∙ absent_off (get m k) e)
  | false ↦ λ t. refl
] refl

pub kept-insert : (m : Map Bool) (k : Key) (v : Bool) → KeepsThere m (insert m k v)
kept-insert m k v q h = there-insert-at m k v q ∙ ap (cond (at q k) true) h ∙ elim (at q k) as (λ b. cond b true true ≡ true) [ true ↦ refl | false ↦ refl ]

self_tie : (k : Key) → at k k ≡ true
self_tie k = (eq_by_cmp_equiv nat_list_cmp_total).refl k

pub there-insert : (m : Map Bool) (k : Key) (v : Bool) → IsThere (insert m k v) k
there-insert m k v = there-insert-at m k v k ∙ ap (λ b. cond b true (contains_key m k)) (self_tie k)

pub follows-stop : (u : ChangeSet) (m : Map Bool) (k : Key) → Follows u m → Follows (remove u k) (insert m k false)
follows-stop u m k h q = on-insert m k false q ∙ ap (cond (at q k) false) (h q) ∙ sym (there-remove-at u k q)

pub follows-start : (u : ChangeSet) (m : Map Bool) (k : Key) (c : KeyChange) → Follows u m → Follows (insert u k c) (insert m k true)
follows-start u m k c h q = on-insert m k true q ∙ ap (cond (at q k) true) (h q) ∙ sym (there-insert-at u k c q)

pub follows-same : (u : ChangeSet) (m n : Map Bool) → SameSwitches m n → Follows u m → Follows u n
follows-same u m n s h q = s q ∙ h q

pub follows-none : Follows empty empty
follows-none q = ap is_on (get-empty (slice_cmp nat_cmp) q) ∙ sym (ap is_some (get-empty {X = KeyChange} (slice_cmp nat_cmp) q))

pub off-none : (q : Key) → on_at empty q ≡ false
off-none q = ap is_on (get-empty (slice_cmp nat_cmp) q)

-- ---- one switch is turned

follows-absent : (u : ChangeSet) (m : Map Bool) (k : Key) → contains_key m k ≡ false → Follows u m → Follows (remove u k) m
follows-absent u m k e h q = h q ∙ elim (at q k) as (λ b. at q k ≡ b → contains_key u q ≡ cond b false (contains_key u q)) [
  | true ↦ λ t. sym (h q) ∙ ap (on_at m) (at-is q k t) ∙ absent_off (get m k) e
  | false ↦ λ t. refl
] refl ∙ sym (there-remove-at u k q)

pub follows-stopped : (u : ChangeSet) (m n : Map Bool) (k : Key) → IsSwitched m k false n → Follows u m → Follows (remove u k) n
follows-stopped u m n k s h = elim (contains_key m k) as (λ b. contains_key m k ≡ b → Follows (remove u k) n) [
  | true ↦ λ t. subst (Follows (remove u k)) (sym (s.there t)) (follows-stop u m k h)
  | false ↦ λ t. subst (Follows (remove u k)) (sym (s.absent t)) (follows-absent u m k t h)
] refl

pub follows-started : (u : ChangeSet) (m n : Map Bool) (k : Key) (c : KeyChange) → IsThere m k → IsSwitched m k true n → Follows u m → Follows (insert u k c) n
follows-started u m n k c t s h = subst (Follows (insert u k c)) (sym (s.there t)) (follows-start u m k c h)

pub kept-switched : (m n : Map Bool) (k : Key) (on : Bool) → IsSwitched m k on n → KeepsThere m n
kept-switched m n k on s q h = elim (contains_key m k) as (λ b. contains_key m k ≡ b → IsThere n q) [
  | true ↦ λ t. subst (λ x. IsThere x q) (sym (s.there t)) (kept-insert m k on q h)
  | false ↦ λ t. subst (λ x. IsThere x q) (sym (s.absent t)) h
] refl

-- ---- along a list

pub there-more : (n : ℕ) (old new : Map Bool) (cs : List Change) (c : Change) → n < length cs → c ≡ get_or cs n c → KeepsThere old new → IsThere new (encode_utf8_all c.key)
    → AreThereBelow n old cs → AreThereBelow (n + 1) new cs
there-more n old new cs c h is kept last below = below_more _ _ (λ i lt d. kept _ (below i lt d))
    (λ d. subst (λ (x : Change). IsThere new (encode_utf8_all x.key)) (is ∙ get_or_default cs n c d h) last)

-- ---- a key more

or_cond : (b v : Bool) → cond b true v ≡ (v || b)
or_cond true true = refl
or_cond true false = refl
or_cond false true = refl
or_cond false false = refl

pub on-started : (a m n : Map Bool) (k : Key) → SameSwitches a m → IsThere m k → IsSwitched m k true n → (q : Key) → on_at n q ≡ (on_at a q || at q k)
on-started a m n k same t s q = ap (λ x. on_at x q) (s.there t) ∙ on-insert m k true q ∙ ap (cond (at q k) true) (same q) ∙ or_cond (at q k) (on_at a q)
