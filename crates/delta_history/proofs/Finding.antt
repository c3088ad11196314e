-- Deltas of a legal history are found where they stand.
--     rising             their versions rise
--     at_start, behind_start     whether a delta is among those below a version
--     end_is             the hashed version at a version
--     state_from, state_is    the state there
--     kept_at            what is kept for an id
--     found_front, none_front    a place among the first deltas, and after them
--     index_more, index_longer     one more delta in the index, and one that isn't
--     legal_end          the point at the head
--     has_place, held_end     whether an id has a place; the bound on items
--     hash_is, kept_here     the hash at a version, and what is kept, of the whole
use Rattle.std.proofs.Common.{◌≡◌, ℕ, zero, suc, ◌+◌, ◌<◌, ◌≤◌, Bool, true, false, cond, ◌||◌, ◌==◌, nat_lt, List, [], ◌∷◌, ◌++◌, length, take, drop, slice_get, Option, Some, None, refl, sym, ap, subst, ◌∙◌, arith, true≢false, append_assoc, append-nil, is_some, IsSome, option_and_then, unwrap_or}
use Rattle.std.specs.Option.{option_map}
use Rattle.std.proofs.lemmas.Bool.Decides.{nat_tests, Decides-eqb}
use Rattle.doc_op.proofs.Applying.{no_value, same_Some}
use Rattle.wave_base.specs.Versions.{IdOf, VersionAt, same_id}
use Rattle.wave_base.proofs.Same.{same_id-is, same_id-refl}
use Rattle.wavelet_op.specs.Deltas.{DeltaOf}
use Rattle.wavelet_op.specs.States.{State, empty_state, run}
use Rattle.delta_history.specs.declared.kept.Kept.{Kept}
use Rattle.delta_history.specs.Points.{Point, start, acts_of, next_point, replay, run_all, cut, point_at, state_of, end_of}
use Rattle.delta_history.specs.Legal.{has_id, IsNext, IsLegalFrom, IsLegal}
use Rattle.wavelet_state.specs.Snapshots.{max_inserted}
use Rattle.delta_history.specs.Verdicts.{kept}
use Rattle.delta_history.specs.Places.{started_below, IsRisingFrom, from_or, if_at, end_at, count_at, place_from, stands_at, Places, place_in, IsIndex, IsPut}
use Rattle.delta_history.proofs.Points.{and_then_is, after_point, replay_more, rises, run_some, run_front}
use Rattle.delta_history.proofs.Chains.{starts_at, goes_from}
use Rattle.delta_history.proofs.Versions.{cut_is}

-- ---- tests of numbers

pub lt_true : (a b : ℕ) → nat_lt a b ≡ true → a < b
lt_true a b h = grind (arith, nat_tests)

pub lt_false : (a b : ℕ) → nat_lt a b ≡ false → b ≤ a
lt_false a b h = grind (arith, nat_tests)

true_lt : (a b : ℕ) → a < b → nat_lt a b ≡ true
true_lt a b h = grind (arith, nat_tests)

false_lt : (a b : ℕ) → b ≤ a → nat_lt a b ≡ false
false_lt a b h = grind (arith, nat_tests)

eq_false : (a b : ℕ) → a < b → (a == b) ≡ false
eq_false a b h = grind (arith, nat_tests)

eq_above : (a b : ℕ) → b < a → (a == b) ≡ false
eq_above a b h = grind (arith, nat_tests)

-- ---- versions rise

lower : (m n : ℕ) (ds : List DeltaOf) → m ≤ n → IsRisingFrom n ds → IsRisingFrom m ds
lower m n [] h r = tt
lower m n (d ∷ ds) h r = (let x = r.0 in omega (arith, x), r.1)

pub rising_from : (name : List ℕ) (b ds : List DeltaOf) (p : Point) → IsLegalFrom name b ds → replay (start name) b ≡ Some p → IsRisingFrom p.at.version ds
rising_from name b [] p l e = tt
rising_from name b (d ∷ ds) p l e =
    let n = l.0 in
    let z = goes_from name b d p e n in
    let a = after_point p n.after d z in
    let at : d.from.version ≡ p.at.version = ap (λ (y : VersionAt). y.version) (starts_at name b d p e n) in
    let rest = rising_from name (b ++ d ∷ []) ds n.after l.1 (replay_more (start name) p n.after b d e z) in
    (omega (arith, at), lower d.from.version n.after.at.version ds (omega (arith, at, a.version)) rest)

pub rising : (name : List ℕ) (ds : List DeltaOf) → IsLegal name ds → IsRisingFrom 0 ds
rising name ds l = rising_from name [] ds (start name) l refl

above : (n k : ℕ) (ds : List DeltaOf) (d : DeltaOf) → IsRisingFrom n ds → slice_get ds k ≡ Some d → n ≤ d.from.version
above n k [] d r e = no_value e
above n zero (x ∷ ds) d r e = subst (λ (z : DeltaOf). n ≤ z.from.version) (same_Some e) r.0
above n (suc k) (x ∷ ds) d r e = let u = above x.from.version k ds d r.1 e in let w = r.0 in omega (arith, u, w)

pub at_start : (v n k : ℕ) (ds : List DeltaOf) (d : DeltaOf) → IsRisingFrom n ds → slice_get ds k ≡ Some d → d.from.version < v → k < started_below v ds
at_start v n k [] d r e h = no_value e
at_start v n zero (x ∷ ds) d r e h =
    let t = true_lt x.from.version v (subst (λ (z : DeltaOf). z.from.version < v) (sym (same_Some e)) h) in
    subst (λ b. 0 < cond b (suc (started_below v ds)) 0) (sym t) (omega arith)
at_start v n (suc k) (x ∷ ds) d r e h =
    let low = above x.from.version k ds d r.1 e in
    let t = true_lt x.from.version v (omega (arith, low, h)) in
    let i = at_start v x.from.version k ds d r.1 e h in
    subst (λ b. suc k < cond b (suc (started_below v ds)) 0) (sym t) (omega (arith, i))

pub behind_start : (v k : ℕ) (ds : List DeltaOf) (d : DeltaOf) → slice_get ds k ≡ Some d → v ≤ d.from.version → started_below v ds ≤ k
behind_start v k [] d e h = no_value e
behind_start v zero (x ∷ ds) d e h =
    let t = false_lt x.from.version v (subst (λ (z : DeltaOf). v ≤ z.from.version) (sym (same_Some e)) h) in
    subst (λ b. cond b (suc (started_below v ds)) 0 ≤ 0) (sym t) (omega arith)
behind_start v (suc k) (x ∷ ds) d e h = go (nat_lt x.from.version v) (behind_start v k ds d e h)
  where
    go : (b : Bool) → started_below v ds ≤ k → cond b (suc (started_below v ds)) 0 ≤ suc k
    go true i = omega (arith, i)
    go false i = omega arith

pub started_within : (v : ℕ) (ds : List DeltaOf) → started_below v ds ≤ length ds
started_within v [] = omega arith
started_within v (d ∷ ds) = go (nat_lt d.from.version v) (started_within v ds)
  where
    go : (b : Bool) → started_below v ds ≤ length ds → cond b (suc (started_below v ds)) 0 ≤ suc (length ds)
    go true i = omega (arith, i)
    go false i = omega arith

-- ---- by version

abbrev at_of : Option (Point × List DeltaOf) → Option VersionAt
at_of o = option_map (λ c. c.0.at) o

cut_high : (p : Point) (v : ℕ) (ds : List DeltaOf) → v < p.at.version → at_of (cut p v ds) ≡ None
cut_high p v ds h = go (cut p v ds) refl
  where
    go : (o : Option (Point × List DeltaOf)) → cut p v ds ≡ o → at_of o ≡ None
    go None e = refl
    go (Some c) e =
        let x = cut_is p v ds c.0 c.1 e in
        let u = rises p c.0 x.before x.leads in
        let w = x.version in
        absurd (omega (arith, u, w, h))

no_end : (v : ℕ) (at : VersionAt) → (at.version == v) ≡ false → if_at v at ≡ None
no_end v at h = ap (λ b. cond b (Some at) None) h

if_map : (b : Bool) (p : Point) (ds : List DeltaOf) → at_of (cond b (Some (p, ds)) None) ≡ cond b (Some p.at) None
if_map true p ds = refl
if_map false p ds = refl

pub end_from : (name : List ℕ) (b ds : List DeltaOf) (p q : Point) (v : ℕ) → IsLegalFrom name b ds → replay (start name) b ≡ Some p → replay p ds ≡ Some q → at_of (cut p v ds) ≡ end_at v q.at ds
end_from name b [] p q v l e r = if_map (p.at.version == v) p [] ∙ ap (λ (z : Point). if_at v z.at) (same_Some r)
end_from name b (d ∷ ds) p q v l e r = go (end_from name (b ++ d ∷ []) ds n.after q v l.1 (replay_more (start name) p n.after b d e z) rest) (p.at.version == v) refl (nat_lt p.at.version v) refl
  where
    n : IsNext name b d
    n = l.0

    z : next_point p d ≡ Some n.after
    z = goes_from name b d p e n

    from : d.from ≡ p.at
    from = starts_at name b d p e n

    rest : replay n.after ds ≡ Some q
    rest = sym (and_then_is (next_point p d) (λ y. replay y ds) n.after z) ∙ r

    same : (t : Bool) → nat_lt p.at.version v ≡ t → started_below v (d ∷ ds) ≡ cond t (suc (started_below v ds)) 0
    same t u = ap (λ (y : VersionAt). cond (nat_lt y.version v) (suc (started_below v ds)) 0) from ∙ ap (λ t. cond t (suc (started_below v ds)) 0) u

    ends : (t : Bool) → nat_lt p.at.version v ≡ t → end_at v q.at (d ∷ ds) ≡ if_at v (from_or q.at (slice_get (d ∷ ds) (cond t (suc (started_below v ds)) 0)))
    ends t u = ap (λ k. if_at v (from_or q.at (slice_get (d ∷ ds) k))) (same t u)

    go : at_of (cut n.after v ds) ≡ end_at v q.at ds → (t : Bool) → (p.at.version == v) ≡ t → (u : Bool) → nat_lt p.at.version v ≡ u → at_of (cut p v (d ∷ ds)) ≡ end_at v q.at (d ∷ ds)
    go again true t u f =
        let is = (Decides-eqb p.at.version v).0 t in
        ap (λ b. at_of (cond b (Some (p, d ∷ ds)) (option_and_then (λ q. cut q v ds) (next_point p d)))) t
        ∙ sym (ends false (false_lt p.at.version v (omega (arith, is))) ∙ ap (if_at v) from ∙ ap (λ b. cond b (Some p.at) None) t)
    go again false t true f =
        ap (λ b. at_of (cond b (Some (p, d ∷ ds)) (option_and_then (λ q. cut q v ds) (next_point p d)))) t
        ∙ ap at_of (and_then_is (next_point p d) (λ q. cut q v ds) n.after z)
        ∙ again
        ∙ sym (ends true f)
    go again false t false f =
        let low = lt_false p.at.version v f in
        let up : v < p.at.version = grind (arith, nat_tests, t, low) in
        cut_high p v (d ∷ ds) up ∙ sym (ends false f ∙ ap (if_at v) from ∙ no_end v p.at t)

-- ---- states by version

abbrev found_state : Option (Point × List DeltaOf) → Option State
found_state o = option_map (λ c. c.0.state) o

-- the state after the first k deltas, where something was found
abbrev state_if : State → ℕ → List DeltaOf → Option VersionAt → Option State
state_if s k ds o = option_and_then (λ at. run_all s (take k ds)) o

state_here : (b : Bool) (p : Point) (ds : List DeltaOf) → found_state (cond b (Some (p, ds)) None) ≡ option_and_then (λ at. Some p.state) (cond b (Some p.at) None)
state_here true p ds = refl
state_here false p ds = refl

cut_none : (p : Point) (v : ℕ) (ds : List DeltaOf) → v < p.at.version → found_state (cut p v ds) ≡ None
cut_none p v ds h = go (cut p v ds) (cut_high p v ds h)
  where
    go : (o : Option (Point × List DeltaOf)) → at_of o ≡ None → found_state o ≡ None
    go None e = refl
    go (Some c) e = no_value (sym e)

pub state_from : (name : List ℕ) (b ds : List DeltaOf) (p q : Point) (v : ℕ) → IsLegalFrom name b ds → replay (start name) b ≡ Some p → replay p ds ≡ Some q → found_state (cut p v ds) ≡ state_if p.state (started_below v ds) ds (end_at v q.at ds)
state_from name b [] p q v l e r = state_here (p.at.version == v) p [] ∙ ap (λ (z : Point). option_and_then (λ at. Some p.state) (if_at v z.at)) (same_Some r)
state_from name b (d ∷ ds) p q v l e r = go (state_from name (b ++ d ∷ []) ds n.after q v l.1 (replay_more (start name) p n.after b d e z) rest) (p.at.version == v) refl (nat_lt p.at.version v) refl
  where
    n : IsNext name b d
    n = l.0

    z : next_point p d ≡ Some n.after
    z = goes_from name b d p e n

    from : d.from ≡ p.at
    from = starts_at name b d p e n

    rest : replay n.after ds ≡ Some q
    rest = sym (and_then_is (next_point p d) (λ y. replay y ds) n.after z) ∙ r

    led : run_all p.state (d ∷ take (started_below v ds) ds) ≡ run_all n.after.state (take (started_below v ds) ds)
    led =
        let a = after_point p n.after d z in
        and_then_is (run p.state (acts_of d)) (λ s. run_all s (take (started_below v ds) ds)) a.state a.goes ∙ ap (λ s. run_all s (take (started_below v ds) ds)) (sym a.same)

    ends : (t : Bool) → nat_lt p.at.version v ≡ t → state_if p.state (started_below v (d ∷ ds)) (d ∷ ds) (end_at v q.at (d ∷ ds)) ≡ state_if p.state (cond t (suc (started_below v ds)) 0) (d ∷ ds) (if_at v (from_or q.at (slice_get (d ∷ ds) (cond t (suc (started_below v ds)) 0))))
    ends t u =
        let same = ap (λ (y : VersionAt). cond (nat_lt y.version v) (suc (started_below v ds)) 0) from ∙ ap (λ t. cond t (suc (started_below v ds)) 0) u in
        ap (λ k. state_if p.state k (d ∷ ds) (if_at v (from_or q.at (slice_get (d ∷ ds) k)))) same

    go : found_state (cut n.after v ds) ≡ state_if n.after.state (started_below v ds) ds (end_at v q.at ds) → (t : Bool) → (p.at.version == v) ≡ t → (u : Bool) → nat_lt p.at.version v ≡ u → found_state (cut p v (d ∷ ds)) ≡ state_if p.state (started_below v (d ∷ ds)) (d ∷ ds) (end_at v q.at (d ∷ ds))
    go again true t u f =
        let is = (Decides-eqb p.at.version v).0 t in
        ap (λ b. found_state (cond b (Some (p, d ∷ ds)) (option_and_then (λ q. cut q v ds) (next_point p d)))) t
        ∙ sym (ends false (false_lt p.at.version v (omega (arith, is))) ∙ ap (λ at. option_and_then (λ y. Some p.state) (if_at v at)) from ∙ ap (λ b. option_and_then (λ y. Some p.state) (cond b (Some p.at) None)) t)
    go again false t true f =
        ap (λ b. found_state (cond b (Some (p, d ∷ ds)) (option_and_then (λ q. cut q v ds) (next_point p d)))) t
        ∙ ap found_state (and_then_is (next_point p d) (λ q. cut q v ds) n.after z)
        ∙ again
        ∙ sym (ends true f ∙ ap (λ o. option_and_then (λ y. o) (end_at v q.at ds)) led)
    go again false t false f =
        let low = lt_false p.at.version v f in
        let up : v < p.at.version = grind (arith, nat_tests, t, low) in
        cut_none p v (d ∷ ds) up ∙ sym (ends false f ∙ ap (λ at. option_and_then (λ y. Some p.state) (if_at v at)) from ∙ ap (option_and_then (λ y. Some p.state)) (no_end v p.at t))

-- ---- by id

shift : (i : IdOf) (m : ℕ) (ds : List DeltaOf) → place_from i (suc m) ds ≡ option_map suc (place_from i m ds)
shift i m [] = refl
shift i m (d ∷ ds) = go (same_id i d.id) (shift i (suc m) ds)
  where
    go : (b : Bool) → place_from i (suc (suc m)) ds ≡ option_map suc (place_from i (suc m) ds) → cond b (Some (suc m)) (place_from i (suc (suc m)) ds) ≡ option_map suc (cond b (Some m) (place_from i (suc m) ds))
    go true h = refl
    go false h = h

then_suc : (o : Option ℕ) (f : ℕ → Option Kept) → option_and_then f (option_map suc o) ≡ option_and_then (λ k. f (suc k)) o
then_suc None f = refl
then_suc (Some k) f = refl

-- where the first of the deltas stands
first_from : (name : List ℕ) (b ds : List DeltaOf) (p q : Point) → IsLegalFrom name b ds → replay (start name) b ≡ Some p → replay p ds ≡ Some q → from_or q.at (slice_get ds 0) ≡ p.at
first_from name b [] p q l e r = ap (λ (z : Point). z.at) (sym (same_Some r))
first_from name b (d ∷ ds) p q l e r = starts_at name b d p e l.0

pub kept_at : (name : List ℕ) (b ds : List DeltaOf) (p q : Point) (i : IdOf) → IsLegalFrom name b ds → replay (start name) b ≡ Some p → replay p ds ≡ Some q → kept i p ds ≡ option_and_then (stands_at q.at ds) (place_from i 0 ds)
kept_at name b [] p q i l e r = refl
kept_at name b (d ∷ ds) p q i l e r = and_then_is (next_point p d) (λ y. cond (same_id i d.id) (Some (record { at = p.at.version; to = y.at })) (kept i y ds)) n.after z ∙ go (kept_at name (b ++ d ∷ []) ds n.after q i l.1 led rest) (same_id i d.id)
  where
    n : IsNext name b d
    n = l.0

    z : next_point p d ≡ Some n.after
    z = goes_from name b d p e n

    led : replay (start name) (b ++ d ∷ []) ≡ Some n.after
    led = replay_more (start name) p n.after b d e z

    rest : replay n.after ds ≡ Some q
    rest = sym (and_then_is (next_point p d) (λ y. replay y ds) n.after z) ∙ r

    go : kept i n.after ds ≡ option_and_then (stands_at q.at ds) (place_from i 0 ds) → (t : Bool) → cond t (Some (record { at = p.at.version; to = n.after.at })) (kept i n.after ds) ≡ option_and_then (stands_at q.at (d ∷ ds)) (cond t (Some 0) (place_from i 1 ds))
    go again true =
        let at : p.at.version ≡ d.from.version = ap (λ (y : VersionAt). y.version) (sym (starts_at name b d p e n)) in
        let to : n.after.at ≡ from_or q.at (slice_get ds 0) = sym (first_from name (b ++ d ∷ []) ds n.after q l.1 led rest) in
        λ k. Some (record { at = at k; to = to k })
    go again false = again ∙ sym (ap (option_and_then (stands_at q.at (d ∷ ds))) (shift i 0 ds) ∙ then_suc (place_from i 0 ds) (stands_at q.at (d ∷ ds)))

-- ---- the index

from_zero : (n : ℕ) → 0 + n ≡ n
from_zero n = omega arith

pub front_place : (i : IdOf) (m n k : ℕ) (ds : List DeltaOf) → place_from i m (take n ds) ≡ Some k → place_from i m ds ≡ Some k
front_place i m zero k ds e = no_value e
front_place i m (suc n) k [] e = no_value e
front_place i m (suc n) k (d ∷ ds) e = go (same_id i d.id) (front_place i (suc m) n k ds) e
  where
    go : (b : Bool) → (place_from i (suc m) (take n ds) ≡ Some k → place_from i (suc m) ds ≡ Some k) → cond b (Some m) (place_from i (suc m) (take n ds)) ≡ Some k → cond b (Some m) (place_from i (suc m) ds) ≡ Some k
    go true f h = h
    go false f h = f h

pub back_place : (i : IdOf) (m n : ℕ) (ds : List DeltaOf) → n ≤ length ds → place_from i m (take n ds) ≡ None → place_from i m ds ≡ place_from i (m + n) (drop n ds)
back_place i m zero ds h e = ap (λ z. place_from i z ds) (omega arith)
back_place i m (suc n) [] h e = absurd (omega (arith, h))
back_place i m (suc n) (d ∷ ds) h e = go (same_id i d.id) (back_place i (suc m) n ds (omega (arith, h))) e
  where
    sum : suc m + n ≡ m + suc n
    sum = omega arith

    go : (b : Bool) → (place_from i (suc m) (take n ds) ≡ None → place_from i (suc m) ds ≡ place_from i (suc m + n) (drop n ds)) → cond b (Some m) (place_from i (suc m) (take n ds)) ≡ None → cond b (Some m) (place_from i (suc m) ds) ≡ place_from i (m + suc n) (drop n ds)
    go true f h = no_value (sym h)
    go false f h = f h ∙ ap (λ z. place_from i z (drop n ds)) sum

pub found_front : (m : Places) (n k : ℕ) (ds : List DeltaOf) (i : IdOf) → IsIndex m n ds → place_in m i ≡ Some k → place_from i 0 ds ≡ Some k
found_front m n k ds i x e = front_place i 0 n k ds (sym (x i) ∙ e)

pub none_front : (m : Places) (n : ℕ) (ds : List DeltaOf) (i : IdOf) → n ≤ length ds → IsIndex m n ds → place_in m i ≡ None → place_from i 0 ds ≡ place_from i n (drop n ds)
none_front m n ds i h x e = back_place i 0 n ds h (sym (x i) ∙ e) ∙ ap (λ z. place_from i z (drop n ds)) (from_zero n)

new_place : (i : IdOf) (m : ℕ) (ds : List DeltaOf) → has_id i ds ≡ false → place_from i m ds ≡ None
new_place i m [] h = refl
new_place i m (d ∷ ds) h = go (same_id i d.id) h (new_place i (suc m) ds)
  where
    go : (b : Bool) → (b || has_id i ds) ≡ false → (has_id i ds ≡ false → place_from i (suc m) ds ≡ None) → cond b (Some m) (place_from i (suc m) ds) ≡ None
    go true h f = absurd (true≢false h)
    go false h f = f h

-- the place of an id with the delta after it
last_place : (i : IdOf) (m n : ℕ) (ds : List DeltaOf) (d : DeltaOf) → slice_get ds n ≡ Some d → same_id i d.id ≡ false → place_from i m (take (suc n) ds) ≡ place_from i m (take n ds)
last_place i m n [] d e s = no_value e
last_place i m zero (x ∷ ds) d e s = ap (λ b. cond b (Some m) None) (ap (λ (z : DeltaOf). same_id i z.id) (same_Some e) ∙ s)
last_place i m (suc n) (x ∷ ds) d e s = ap (cond (same_id i x.id) (Some m)) (last_place i (suc m) n ds d e s)

own_place : (i : IdOf) (m n : ℕ) (ds : List DeltaOf) (d : DeltaOf) → slice_get ds n ≡ Some d → same_id i d.id ≡ true → place_from i m (take n ds) ≡ None → place_from i m (take (suc n) ds) ≡ Some (m + n)
own_place i m n [] d e s f = no_value e
own_place i m zero (x ∷ ds) d e s f = ap (λ b. cond b (Some m) None) (ap (λ (z : DeltaOf). same_id i z.id) (same_Some e) ∙ s) ∙ ap Some (omega arith)
own_place i m (suc n) (x ∷ ds) d e s f = go (same_id i x.id) f (own_place i (suc m) n ds d e s)
  where
    sum : suc m + n ≡ m + suc n
    sum = omega arith

    go : (b : Bool) → cond b (Some m) (place_from i (suc m) (take n ds)) ≡ None → (place_from i (suc m) (take n ds) ≡ None → place_from i (suc m) (take (suc n) ds) ≡ Some (suc m + n)) → cond b (Some m) (place_from i (suc m) (take (suc n) ds)) ≡ Some (m + suc n)
    go true h g = no_value (sym h)
    go false h g = g h ∙ ap Some sum

nth_next : (name : List ℕ) (b ds : List DeltaOf) (n : ℕ) (d : DeltaOf) → IsLegalFrom name b ds → slice_get ds n ≡ Some d → IsNext name (b ++ take n ds) d
nth_next name b [] n d l e = no_value e
nth_next name b (x ∷ ds) zero d l e = subst (λ z. IsNext name z d) (sym (append-nil b)) (subst (IsNext name b) (same_Some e) l.0)
nth_next name b (x ∷ ds) (suc n) d l e = subst (λ z. IsNext name z d) (append_assoc b (x ∷ []) (take n ds)) (nth_next name (b ++ x ∷ []) ds n d l.1 e)

pub index_more : (name : List ℕ) (m m' : Places) (n : ℕ) (ds : List DeltaOf) (d : DeltaOf) → IsLegal name ds → slice_get ds n ≡ Some d → IsIndex m n ds → IsPut m m' d.id n → IsIndex m' (suc n) ds
index_more name m m' n ds d l e x u i = u i ∙ go (same_id d.id i) refl
  where
    fresh : place_from d.id 0 (take n ds) ≡ None
    fresh = new_place d.id 0 (take n ds) (nth_next name [] ds n d l e).new

    go : (t : Bool) → same_id d.id i ≡ t → cond t (Some n) (place_in m i) ≡ place_from i 0 (take (suc n) ds)
    go true s =
        let is = same_id-is d.id i s in
        sym (own_place i 0 n ds d e (subst (λ z. same_id z d.id ≡ true) is (same_id-refl d.id)) (subst (λ z. place_from z 0 (take n ds) ≡ None) is fresh) ∙ ap Some (from_zero n))
    go false s = x i ∙ sym (last_place i 0 n ds d e (other (same_id i d.id) refl))
      where
        other : (t : Bool) → same_id i d.id ≡ t → same_id i d.id ≡ false
        other false h = h
        other true h = absurd (true≢false (sym (subst (λ z. same_id d.id z ≡ true) (sym (same_id-is i d.id h)) (same_id-refl d.id)) ∙ s))

-- ---- the whole history

legal_from : (name : List ℕ) (b ds : List DeltaOf) (p : Point) → IsLegalFrom name b ds → replay (start name) b ≡ Some p → (q : Point) × (replay p ds ≡ Some q)
legal_from name b [] p l e = (p, refl)
legal_from name b (d ∷ ds) p l e =
    let z = goes_from name b d p e l.0 in
    let r = legal_from name (b ++ d ∷ []) ds l.0.after l.1 (replay_more (start name) p l.0.after b d e z) in
    (r.0, and_then_is (next_point p d) (λ y. replay y ds) l.0.after z ∙ r.1)

pub legal_end : (name : List ℕ) (ds : List DeltaOf) → IsLegal name ds → replay (start name) ds ≡ Some (end_of name ds)
legal_end name ds l =
    let r = legal_from name [] ds (start name) l refl in
    r.1 ∙ ap Some (sym (ap (λ o. unwrap_or o (start name)) r.1))

pub hash_is : (name : List ℕ) (ds : List DeltaOf) (v : ℕ) → IsLegal name ds → option_map (λ a. a.hash) (end_at v (end_of name ds).at ds) ≡ option_map (λ p. p.at.hash) (point_at name ds v)
hash_is name ds v l = ap (option_map (λ a. a.hash)) (sym (end_from name [] ds (start name) (end_of name ds) v l refl (legal_end name ds l))) ∙ go (cut (start name) v ds)
  where
    go : (o : Option (Point × List DeltaOf)) → option_map (λ a. a.hash) (at_of o) ≡ option_map (λ p. p.at.hash) (option_map (λ c. c.0) o)
    go None = refl
    go (Some c) = refl

-- the state at a version, by how many deltas lead up to it
pub state_is : (name : List ℕ) (ds : List DeltaOf) (v : ℕ) → IsLegal name ds → state_of (point_at name ds v) ≡ option_and_then (λ k. run_all empty_state (take k ds)) (count_at v (end_of name ds).at ds)
state_is name ds v l = shape (cut (start name) v ds) ∙ state_from name [] ds (start name) (end_of name ds) v l refl (legal_end name ds l) ∙ counted (end_at v (end_of name ds).at ds)
  where
    shape : (o : Option (Point × List DeltaOf)) → state_of (option_map (λ c. c.0) o) ≡ found_state o
    shape None = refl
    shape (Some c) = refl

    counted : (o : Option VersionAt) → state_if empty_state (started_below v ds) ds o ≡ option_and_then (λ k. run_all empty_state (take k ds)) (option_map (λ at. started_below v ds) o)
    counted None = refl
    counted (Some at) = refl

-- a front of a legal history leads somewhere
pub front_runs : (name : List ℕ) (ds : List DeltaOf) (k : ℕ) → IsLegal name ds → IsSome (run_all empty_state (take k ds))
front_runs name ds k l =
    let r = run_front empty_state (end_of name ds).state k ds (run_some (start name) (end_of name ds) ds (legal_end name ds l)) in
    ap is_some r.1

pub kept_here : (name : List ℕ) (ds : List DeltaOf) (i : IdOf) → IsLegal name ds → kept i (start name) ds ≡ option_and_then (stands_at (end_of name ds).at ds) (place_from i 0 ds)
kept_here name ds i l = kept_at name [] ds (start name) (end_of name ds) i l refl (legal_end name ds l)

-- ---- one delta more

take_left : {A : Type 0} (n : ℕ) (xs ys : List A) → n ≤ length xs → take n (xs ++ ys) ≡ take n xs
take_left zero xs ys h = refl
take_left (suc n) [] ys h = absurd (omega (arith, h))
take_left (suc n) (x ∷ xs) ys h = ap (λ z. x ∷ z) (take_left n xs ys (omega (arith, h)))

pub index_longer : (m : Places) (n : ℕ) (ds : List DeltaOf) (d : DeltaOf) → n ≤ length ds → IsIndex m n ds → IsIndex m n (ds ++ d ∷ [])
index_longer m n ds d h x i = x i ∙ ap (place_from i 0) (sym (take_left n ds (d ∷ []) h))

-- ---- what the whole tells

pub has_place : (i : IdOf) (n : ℕ) (ds : List DeltaOf) → is_some (place_from i n ds) ≡ has_id i ds
has_place i n [] = refl
has_place i n (d ∷ ds) = go (same_id i d.id) (has_place i (suc n) ds)
  where
    go : (b : Bool) → is_some (place_from i (suc n) ds) ≡ has_id i ds → is_some (cond b (Some n) (place_from i (suc n) ds)) ≡ (b || has_id i ds)
    go true h = refl
    go false h = h

held_from : (name : List ℕ) (b ds : List DeltaOf) (p q : Point) → IsLegalFrom name b ds → replay (start name) b ≡ Some p → replay p ds ≡ Some q → p.count ≤ max_inserted → q.count ≤ max_inserted
held_from name b [] p q l e r h = subst (λ (z : Point). z.count ≤ max_inserted) (same_Some r) h
held_from name b (d ∷ ds) p q l e r h =
    let z = goes_from name b d p e l.0 in
    held_from name (b ++ d ∷ []) ds l.0.after q l.1 (replay_more (start name) p l.0.after b d e z) (sym (and_then_is (next_point p d) (λ y. replay y ds) l.0.after z) ∙ r) l.0.held

pub held_end : (name : List ℕ) (ds : List DeltaOf) → IsLegal name ds → (end_of name ds).count ≤ max_inserted
held_end name ds l = held_from name [] ds (start name) (end_of name ds) l refl (legal_end name ds l) (omega arith)
