-- Lists of entries whose keys rise, as the entries of a map do.
--     Rising es                 the keys strictly rise
--     entries_rise, next_above, rest_rises     the entries of a map rise; so each key comes after the last one
--     Follow last es            each key comes after the one before it, the first after `last`
--     follow_rising, rising_follow     which is to rise, both ways
--     insert_all m es           the map with these entries inserted in order
--     all_inserted, entries-inserted     a map's entries give the map, and rising entries a map with these entries
use Rattle.std.proofs.Common.{Ordering, Less, Equal, Greater, ◌≡◌, Bool, true, false, cond, ◌&&◌, T, List, [], ◌∷◌, refl, sym, ap, ◌∙◌, Option, None, Some}
use Rattle.std.specs.Ordering.{nat_cmp, is_lt, is_eq}
use Rattle.std.specs.Cmp.Lexicographic.{slice_cmp}
use Rattle.std.specs.FinMap as finite
use Rattle.std.proofs.lemmas.Cmp.{nat_list_cmp_total}
use Rattle.std.proofs.lemmas.Bool.{and_parts, and_from}
use Rattle.doc_items.specs.Maps.{Key, Map, is_next}
use Rattle.doc_items.proofs.Maps.{alike, tie, tied}

is_true : (b : Bool) → T b → b ≡ true
is_true true p = refl
is_true false p = absurd p

holds : (b : Bool) → b ≡ true → T b
holds true e = tt
holds false e = absurd cc

less : (o : Ordering) → is_lt o ≡ true → o ≡ Less
less Less p = refl
less Equal p = absurd cc
less Greater p = absurd cc

unlike : (o : Ordering) → is_lt o ≡ true → is_eq o ≡ false
unlike o p = ap is_eq (less o p)

-- a key before one that is before a third
pub goes_before : (a b c : Key) → is_lt (slice_cmp nat_cmp a b) ≡ true → is_lt (slice_cmp nat_cmp b c) ≡ true → is_lt (slice_cmp nat_cmp a c) ≡ true
goes_before a b c p q = ap is_lt (nat_list_cmp_total.trans a b c (less _ p) (less _ q))

ends_joined : (a b c d : Bool) → ((a && b) && (c && d)) ≡ true → (b && d) ≡ true
ends_joined true b c d h = let parts = and_parts b (c && d) h in and_from b d parts.0 (and_parts c d parts.1).1
ends_joined false b c d h = absurd (cc)

abbrev or_else : {Y : Type 0} → Option Y → Option Y → Option Y
or_else None w = w
or_else (Some x) w = Some x

or_none : {Y : Type 0} (v : Option Y) → or_else v None ≡ v
or_none None = refl
or_none (Some x) = refl

module _ {X : Type 0} where
  abbrev pub Rising : List (Key × X) → Type 0
  Rising es = finite.is_sorted (slice_cmp nat_cmp) es ≡ true

  pub entries_rise : (m : Map X) → Rising (finite.entries m)
  entries_rise m = is_true (finite.is_sorted (slice_cmp nat_cmp) (finite.entries m)) (finite.entries_sorted m)

  pub rest_rises : (e : Key × X) (es : List (Key × X)) → Rising (e ∷ es) → Rising es
  rest_rises e es h = (and_parts _ _ h).1

  abbrev below : Key → List (Key × X) → Bool
  below k [] = true
  below k (e ∷ es) = is_lt (slice_cmp nat_cmp k e.0) && below k es

  -- the one after the next
  skips : (e f : Key × X) (es : List (Key × X)) → Rising (e ∷ f ∷ es) → Rising (e ∷ es)
  skips e f es h = ends_joined (is_lt (slice_cmp nat_cmp e.0 f.0)) (below e.0 es) (below f.0 es) (finite.is_sorted (slice_cmp nat_cmp) es) h

  pub next_above : (e f : Key × X) (es : List (Key × X)) → Rising (e ∷ f ∷ es) → is_next (Some e.0) f.0 ≡ true
  next_above e f es h = (and_parts _ _ (and_parts _ _ h).0).0

  -- ---- rising one by one

  abbrev pub Follow : Option Key → List (Key × X) → Type 0
  Follow last [] = Unit {0}
  Follow last (e ∷ es) = (is_next last e.0 ≡ true) × Follow (Some e.0) es

  below_all : (k l : Key) (es : List (Key × X)) → is_lt (slice_cmp nat_cmp k l) ≡ true → Follow (Some l) es → below k es ≡ true
  below_all k l [] lt h = refl
  below_all k l (e ∷ es) lt h = let here = goes_before k l e.0 lt h.0 in and_from _ _ here (below_all k e.0 es here h.1)

  below_next : (e : Key × X) (es : List (Key × X)) → Follow (Some e.0) es → below e.0 es ≡ true
  below_next e [] h = refl
  below_next e (f ∷ es) h = and_from _ _ h.0 (below_all e.0 f.0 es h.0 h.1)

  pub follow_rising : (last : Option Key) (es : List (Key × X)) → Follow last es → Rising es
  follow_rising last [] h = refl
  follow_rising last (e ∷ es) h = and_from _ _ (below_next e es h.1) (follow_rising (Some e.0) es h.1)

  rising_after : (e : Key × X) (es : List (Key × X)) → Rising (e ∷ es) → Follow (Some e.0) es
  rising_after e [] h = tt
  rising_after e (f ∷ es) h = (next_above e f es h, rising_after f es (rest_rises e (f ∷ es) h))

  pub rising_follow : (es : List (Key × X)) → Rising es → Follow None es
  rising_follow [] h = tt
  rising_follow (e ∷ es) h = (refl, rising_after e es h)

  -- ---- inserted in order

  abbrev pub insert_all : Map X → List (Key × X) → Map X
  insert_all m [] = m
  insert_all m (e ∷ es) = insert_all (finite.insert m e.0 e.1) es

  not_found : (e : Key × X) (es : List (Key × X)) → Rising (e ∷ es) → finite.find (slice_cmp nat_cmp) e.0 es ≡ None
  not_found e [] h = refl
  not_found e (f ∷ es) h =
      ap (λ b. cond b (Some f.1) (finite.find (slice_cmp nat_cmp) e.0 es)) (unlike _ (next_above e f es h))
      ∙ not_found e es (skips e f es h)

  get-insert_all : (m : Map X) (es : List (Key × X)) (q : Key) → Rising es → finite.get (insert_all m es) q ≡ or_else (finite.find (slice_cmp nat_cmp) q es) (finite.get m q)
  unfolding tie
  get-insert_all m [] q h = refl
  get-insert_all m (e ∷ es) q h =
      get-insert_all (finite.insert m e.0 e.1) es q (rest_rises e es h)
      ∙ ap (or_else (finite.find (slice_cmp nat_cmp) q es)) (finite.get-insert nat_list_cmp_total m e.0 e.1 q)
      ∙ elim (tie q e.0) as (λ b. tie q e.0 ≡ b → or_else (finite.find (slice_cmp nat_cmp) q es) (cond b (Some e.1) (finite.get m q)) ≡ or_else (cond b (Some e.1) (finite.find (slice_cmp nat_cmp) q es)) (finite.get m q)) [
        | true ↦ λ t. ap (λ w. or_else w (Some e.1)) (ap (λ k. finite.find (slice_cmp nat_cmp) k es) (tied q e.0 t) ∙ not_found e es h)
        | false ↦ λ t. refl
      ] refl

  pub all_inserted : (m : Map X) → insert_all finite.empty (finite.entries m) ≡ m
  all_inserted m = alike _ _ (λ q.
      get-insert_all finite.empty (finite.entries m) q (entries_rise m)
      ∙ ap (or_else (finite.find (slice_cmp nat_cmp) q (finite.entries m))) (finite.get-empty (slice_cmp nat_cmp) q)
      ∙ or_none _
      ∙ sym (finite.get-entries m q))

  pub entries-inserted : (es : List (Key × X)) → Rising es → finite.entries (insert_all finite.empty es) ≡ es
  entries-inserted es h =
      let sorted = holds (finite.is_sorted (slice_cmp nat_cmp) es) h in
      let same : finite.entries (finite.from_sorted {R = slice_cmp nat_cmp} es) ≡ es = finite.entries-from_sorted (slice_cmp nat_cmp) es sorted in
      ap (λ l. finite.entries (insert_all finite.empty l)) (sym same) ∙ ap finite.entries (all_inserted (finite.from_sorted {R = slice_cmp nat_cmp} es)) ∙ same
