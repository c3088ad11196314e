-- The square of two change sets, key by key.
use Rattle.std.proofs.Common.{◌≡◌, true, refl, ap, ◌∙◌, Option, None, Some}
use Rattle.std.specs.FinMap.{get, empty, get-empty, empty_of_len}
use Rattle.std.specs.Ordering.{nat_cmp}
use Rattle.std.specs.Cmp.Lexicographic.{slice_cmp}
use Rattle.std.proofs.lemmas.Bool.{eqb-true}
use Rattle.doc_items.specs.Maps.{Key, Map}
use Rattle.doc_items.specs.Changes.{KeyChange, ChangeSet, fits_old, set_new, agrees, put}
use Rattle.change_view.specs.Rules.{one_over, one_under, same_old}
use Rattle.change_view.specs.Sets.{one_from, start_at}
use Rattle.op_transform.specs.Crossing.{cross, over, under, is_empty}
use Rattle.doc_items.proofs.Maps.{get-merge, matches_at, matches_all, same_value-is, same_value-refl, alike}

-- ---- at one key

key_cross : (u w : Option KeyChange) (v : Option Key) → fits_old u v ≡ true → fits_old w v ≡ true → same_old u w ≡ true
key_cross None w v p q = refl
key_cross (Some u) None v p q = refl
key_cross (Some u) (Some w) v p q = rw (same_value-is u.old v p) (rw (same_value-is w.old v q) (same_value-refl v))

key_over : (u w : Option KeyChange) (v : Option Key) → fits_old u v ≡ true → fits_old (one_over u w) (set_new w v) ≡ true
key_over None w v p = refl
key_over (Some u) None v p = p
key_over (Some u) (Some w) v p = same_value-refl w.new

key_under : (u w : Option KeyChange) (v : Option Key) → fits_old w v ≡ true → fits_old (one_under w u) (set_new u v) ≡ true
key_under None w v q = q
key_under (Some u) w v q = refl

key_meet : (u w : Option KeyChange) (v : Option Key) → set_new (one_over u w) (set_new w v) ≡ set_new (one_under w u) (set_new u v)
key_meet None w v = refl
key_meet (Some u) None v = refl
key_meet (Some u) (Some w) v = refl

-- ---- of whole sets

pub at_put : (c : ChangeSet) (m : Map Key) (q : Key) → get (put c m) q ≡ set_new (get c q) (get m q)
at_put c m q = get-merge set_new c m q refl

pub at_over : (u w : ChangeSet) (q : Key) → get (over u w) q ≡ one_over (get u q) (get w q)
at_over u w q = get-merge one_over u w q refl

pub at_under : (w u : ChangeSet) (q : Key) → get (under w u) q ≡ one_under (get w q) (get u q)
at_under w u q = get-merge one_under w u q refl

pub at_agrees : (c : ChangeSet) (m : Map Key) (q : Key) → agrees c m ≡ true → fits_old (get c q) (get m q) ≡ true
at_agrees c m q h = matches_at fits_old c m q refl h

pub changes_cross : (u w : ChangeSet) (m : Map Key) → agrees u m ≡ true → agrees w m ≡ true → cross u w ≡ true
changes_cross u w m p q = matches_all same_old u w (λ k. key_cross (get u k) (get w k) (get m k) (at_agrees u m k p) (at_agrees w m k q))

pub over_agrees : (u w : ChangeSet) (m : Map Key) → agrees u m ≡ true → agrees (over u w) (put w m) ≡ true
over_agrees u w m p = matches_all fits_old (over u w) (put w m) (λ k. rw (at_over, at_put) (key_over (get u k) (get w k) (get m k) (at_agrees u m k p)))

pub under_agrees : (u w : ChangeSet) (m : Map Key) → agrees w m ≡ true → agrees (under w u) (put u m) ≡ true
under_agrees u w m q = matches_all fits_old (under w u) (put u m) (λ k. rw (at_under, at_put) (key_under (get u k) (get w k) (get m k) (at_agrees w m k q)))

pub changes_meet : (u w : ChangeSet) (m : Map Key) → put (over u w) (put w m) ≡ put (under w u) (put u m)
changes_meet u w m = alike _ _ (λ k. simp (at_put, at_over, at_under) (key_meet (get u k) (get w k) (get m k)))

-- ---- a change set without keys, and one that starts at a map

pub put_empty : (c : ChangeSet) (m : Map Key) → is_empty c ≡ true → put c m ≡ m
unfolding is_empty
put_empty c m e = alike _ _ (λ k. at_put c m k ∙ ap (λ x. set_new (get x k) (get m k)) (empty_of_len c (eqb-true _ _ e)) ∙ ap (λ x. set_new x (get m k)) (get-empty (slice_cmp nat_cmp) k))

key_from : (u : Option KeyChange) (v : Option Key) → fits_old (one_from u v) v ≡ true
key_from None v = refl
key_from (Some u) v = same_value-refl v

key_from_put : (u : Option KeyChange) (v : Option Key) → set_new (one_from u v) v ≡ set_new u v
key_from_put None v = refl
key_from_put (Some u) v = refl

pub at_start : (u : ChangeSet) (m : Map Key) (q : Key) → get (start_at u m) q ≡ one_from (get u q) (get m q)
at_start u m q = get-merge one_from u m q refl

pub start_at_agrees : (u : ChangeSet) (m : Map Key) → agrees (start_at u m) m ≡ true
start_at_agrees u m = matches_all fits_old (start_at u m) m (λ k. rw at_start (key_from (get u k) (get m k)))

pub start_at_put : (u : ChangeSet) (m : Map Key) → put (start_at u m) m ≡ put u m
start_at_put u m = alike _ _ (λ k. simp (at_put, at_start) (key_from_put (get u k) (get m k)))

-- a set without keys agrees with every map
pub empty_agrees : (m : Map Key) → agrees empty m ≡ true
empty_agrees m = matches_all fits_old empty m (λ k. ap (λ x. fits_old x (get m k)) (get-empty (slice_cmp nat_cmp) k))

pub empty_put : (m : Map Key) → put empty m ≡ m
empty_put m = alike _ _ (λ k. at_put empty m k ∙ ap (λ x. set_new x (get m k)) (get-empty (slice_cmp nat_cmp) k))
