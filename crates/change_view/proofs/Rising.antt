-- Lists of entries whose keys rise, and the maps that they are.
--     get_rising, entries_rising     what the map of such a list has, and its entries
--     find_below                     a key below all others isn't found
--     find_entry, front              an entry in front
--     Each, each_entry               what holds of all that is found holds of each entry
use Rattle.std.proofs.Common.{◌≡◌, Bool, true, false, cond, T, List, [], ◌∷◌, refl, sym, ap, subst, ◌∙◌, true≢false, is_some, is_eq, Ordering, Less, Equal, Greater, Option, None, Some}
use Rattle.std.specs.Ordering.{nat_cmp, is_lt, ordering_reverse}
use Rattle.std.specs.Cmp.Lexicographic.{slice_cmp}
use Rattle.std.proofs.lemmas.Cmp.{nat_list_cmp_total, eq_by_cmp_equiv}
use Rattle.std.proofs.lemmas.Bool.{and_parts, and_from}
use Rattle.std.specs.FinMap.{get, entries, from_sorted, find, is_sorted, get-from_sorted, get-entries, entries-from_sorted, entries_sorted}
use Rattle.std.specs.FinMap.Entries.{below_all}
use Rattle.doc_items.specs.Maps.{Key, Map, entry}
use Rattle.doc_items.proofs.ChangeSets.{at, at-is, less}

is_T : (b : Bool) → b ≡ true → T b
is_T b e = subst T (sym e) tt

pub from_T : (b : Bool) → T b → b ≡ true
from_T true t = refl
from_T false t = absurd t

module _ {X : Type 0} where
  abbrev pub below : Key → List (Key × X) → Bool
  below k es = below_all (slice_cmp nat_cmp) k es

  abbrev pub rising : List (Key × X) → Bool
  rising es = is_sorted (slice_cmp nat_cmp) es

  abbrev pub found : Key → List (Key × X) → Option X
  found q es = find (slice_cmp nat_cmp) q es

  abbrev pub map_of : List (Key × X) → Map X
  map_of es = from_sorted es

  pub get_rising : (es : List (Key × X)) (q : Key) → rising es ≡ true → get (map_of es) q ≡ found q es
  get_rising es q h = get-from_sorted (slice_cmp nat_cmp) es q (is_T _ h)

  pub entries_rising : (es : List (Key × X)) → rising es ≡ true → entries (map_of es) ≡ es
  entries_rising es h = entries-from_sorted (slice_cmp nat_cmp) es (is_T _ h)

  pub rising_entries : (m : Map X) → rising (entries m) ≡ true
  rising_entries m = from_T _ (entries_sorted m)

pub at_itself : (k : Key) → at k k ≡ true
at_itself k = (eq_by_cmp_equiv nat_list_cmp_total).refl k

pub at_symm : (a b : Key) → at a b ≡ at b a
at_symm a b = (eq_by_cmp_equiv nat_list_cmp_total).symm a b

less_apart : (r : Ordering) → is_lt r ≡ true → is_eq r ≡ false
less_apart Less e = refl
less_apart Equal e = absurd (true≢false (sym e))
less_apart Greater e = absurd (true≢false (sym e))

pub less_at : (a b : Key) → is_lt (slice_cmp nat_cmp a b) ≡ true → at a b ≡ false
less_at a b e = less_apart (slice_cmp nat_cmp a b) e

pub less_trans : (a b c : Key) → is_lt (slice_cmp nat_cmp a b) ≡ true → is_lt (slice_cmp nat_cmp b c) ≡ true → is_lt (slice_cmp nat_cmp a c) ≡ true
less_trans a b c p q = ap is_lt (nat_list_cmp_total.trans a b c (less _ p) (less _ q))

pub greater_less : (a b : Key) → slice_cmp nat_cmp a b ≡ Greater → is_lt (slice_cmp nat_cmp b a) ≡ true
greater_less a b e = ap is_lt (nat_list_cmp_total.antisymm b a ∙ ap ordering_reverse e)

module _ {X : Type 0} where
  pub below_less : (k l : Key) (es : List (Key × X)) → is_lt (slice_cmp nat_cmp k l) ≡ true → below l es ≡ true → below k es ≡ true
  below_less k l [] p h = refl
  below_less k l (e ∷ es) p h =
      let parts = and_parts (is_lt (slice_cmp nat_cmp l e.0)) (below l es) h in
      and_from _ _ (less_trans k l e.0 p parts.0) (below_less k l es p parts.1)

  -- below the head of a list that rises is below all of it
  pub below_rising : (k : Key) (e : Key × X) (es : List (Key × X)) → is_lt (slice_cmp nat_cmp k e.0) ≡ true → rising (e ∷ es) ≡ true → below k (e ∷ es) ≡ true
  below_rising k e es p h = and_from _ _ p (below_less k e.0 es p (and_parts (below e.0 es) (rising es) h).0)

  pub find_below : (k : Key) (es : List (Key × X)) → below k es ≡ true → found k es ≡ None
  find_below k [] h = refl
  find_below k (e ∷ es) h =
      let parts = and_parts (is_lt (slice_cmp nat_cmp k e.0)) (below k es) h in
      ap (λ b. cond b (Some e.1) (found k es)) (less_at k e.0 parts.0) ∙ find_below k es parts.1

  -- nothing after the head is found at its key
  pub find_head : (q : Key) (e : Key × X) (es : List (Key × X)) → rising (e ∷ es) ≡ true → at q e.0 ≡ true → found q es ≡ None
  find_head q e es h t = ap (λ k. found k es) (at-is q e.0 t) ∙ find_below e.0 es (and_parts (below e.0 es) (rising es) h).0

  pub rising_tail : (e : Key × X) (es : List (Key × X)) → rising (e ∷ es) ≡ true → rising es ≡ true
  rising_tail e es h = (and_parts (below e.0 es) (rising es) h).1

  -- ---- an entry in front

  abbrev pub or_else : Option X → Option X → Option X
  or_else None w = w
  or_else (Some x) w = Some x

  pub or_none : (v : Option X) → or_else v None ≡ v
  or_none None = refl
  or_none (Some x) = refl

  pub find_entry : (q k : Key) (v : Option X) (es : List (Key × X)) → found q (entry k v es) ≡ cond (at q k) (or_else v (found q es)) (found q es)
  find_entry q k None es = elim (at q k) as (λ b. found q es ≡ cond b (found q es) (found q es)) [ true ↦ refl | false ↦ refl ]
  find_entry q k (Some x) es = refl

  pub front : (q k : Key) (v : Option X) (es : List (Key × X)) (w : Option X) → (at q k ≡ true → found q es ≡ None) → (at q k ≡ true → v ≡ w) → (at q k ≡ false → found q es ≡ w)
      → found q (entry k v es) ≡ w
  front q k v es w none own other = find_entry q k v es ∙ elim (at q k) as (λ b. at q k ≡ b → cond b (or_else v (found q es)) (found q es) ≡ w) [
    | true ↦ λ t. ap (or_else v) (none t) ∙ or_none v ∙ own t
    | false ↦ other
  ] refl

  pub below_entry : (p k : Key) (v : Option X) (es : List (Key × X)) → is_lt (slice_cmp nat_cmp p k) ≡ true → below p es ≡ true → below p (entry k v es) ≡ true
  below_entry p k None es h b = b
  below_entry p k (Some x) es h b = and_from _ _ h b

  pub rising_entry : (k : Key) (v : Option X) (es : List (Key × X)) → below k es ≡ true → rising es ≡ true → rising (entry k v es) ≡ true
  rising_entry k None es b h = h
  rising_entry k (Some x) es b h = and_from _ _ b h

  -- ---- each entry

  abbrev pub Each : (Key → X → Type 0) → List (Key × X) → Type 0
  Each P [] = Unit {0}
  Each P (e ∷ es) = P e.0 e.1 × Each P es

  no_value : (x : X) → None ≡ Some x → ⊥
  no_value x e = true≢false (sym (ap is_some e))

  pub each_entry : (P : Key → X → Type 0) (es : List (Key × X)) → rising es ≡ true → ((q : Key) (x : X) → found q es ≡ Some x → P q x) → Each P es
  each_entry P [] h f = tt
  each_entry P (e ∷ es) h f = (
    f e.0 e.1 (ap (λ b. cond b (Some e.1) (found e.0 es)) (at_itself e.0)),
    each_entry P es (rising_tail e es h) (λ q x s. f q x (elim (at q e.0) as (λ b. at q e.0 ≡ b → cond b (Some e.1) (found q es) ≡ Some x) [
      | true ↦ λ t. absurd (no_value x (sym (find_head q e es h t) ∙ s))
      | false ↦ λ t. s
    ] refl)),
  )

  pub each_of : (P : Key → X → Type 0) (m : Map X) → ((q : Key) (x : X) → get m q ≡ Some x → P q x) → Each P (entries m)
  each_of P m f = each_entry P (entries m) (rising_entries m) (λ q x s. f q x (get-entries m q ∙ s))
