-- One list: what is made of each entry is made of the map.
--     rising_mapped, find_mapped     new values at the same keys
--     rising_inserted, inserted_as   those with a new value
--     fit_agrees, put_merge          a map that is tested, and one that is changed
use Rattle.std.proofs.Common.{◌≡◌, true, false, cond, ◌&&◌, List, [], ◌∷◌, map, refl, sym, ap, ◌∙◌, Option, None, Some, option_map, option_and_then}
use Rattle.std.specs.Ordering.{nat_cmp, is_lt}
use Rattle.std.specs.Cmp.{both_ways}
use Rattle.std.specs.Cmp.Lexicographic.{slice_cmp}
use Rattle.std.proofs.lemmas.Bool.{and_parts, and_from}
use Rattle.std.proofs.lemmas.Cmp.{nat_list_cmp_total}
use Rattle.std.specs.FinMap.{get, entries, get-entries, get-insert, get-remove}
use Rattle.doc_items.specs.Maps.{Key, Map, set_key}
use Rattle.doc_items.specs.Changes.{fits_old, set_new, turned, agrees, put, back}
use Rattle.doc_items.proofs.Maps.{alike, get-merge, get-each, get-picked, matches_at, matches_all}
use Rattle.doc_items.proofs.ChangeSets.{at, at-is}
use Rattle.change_view.specs.Sets.{fresh, from_absent, one_inserted, as_inserted, one_deleted, as_deleted}
use Rattle.change_view.specs.Lists.{Entry, turned_entry, deleted_entry, fresh_entry, inserted_entries, all_fit, put_all}
use Rattle.change_view.proofs.Rising.{below, rising, found, map_of, get_rising, rising_entries, at_itself, find_head, rising_tail, front, below_entry, rising_entry}

module _ {X Y : Type 0} (g : Key × X → Y) where
  abbrev mapped : List (Key × X) → List (Key × Y)
  mapped es = map (λ e. (e.0, g e)) es

  below_mapped : (k : Key) (es : List (Key × X)) → below k (mapped es) ≡ below k es
  below_mapped k [] = refl
  below_mapped k (e ∷ es) = ap (λ b. is_lt (slice_cmp nat_cmp k e.0) && b) (below_mapped k es)

  pub rising_mapped : (es : List (Key × X)) → rising (mapped es) ≡ rising es
  rising_mapped [] = refl
  rising_mapped (e ∷ es) = λ i. below_mapped e.0 es i && rising_mapped es i

  pub find_mapped : (q : Key) (es : List (Key × X)) → found q (mapped es) ≡ option_map (λ x. g (q, x)) (found q es)
  find_mapped q [] = refl
  find_mapped q (e ∷ es) = elim (at q e.0) as (λ b. at q e.0 ≡ b → cond b (Some (g e)) (found q (mapped es)) ≡ option_map (λ x. g (q, x)) (cond b (Some e.1) (found q es))) [
    | true ↦ λ t. ap (λ k. Some (g (k, e.1))) (sym (at-is q e.0 t))
    | false ↦ λ t. find_mapped q es
  ] refl

  get_mapped : (es : List (Key × X)) (q : Key) → rising es ≡ true → get (map_of (mapped es)) q ≡ option_map (λ x. g (q, x)) (found q es)
  get_mapped es q h = get_rising (mapped es) q (rising_mapped es ∙ h) ∙ find_mapped q es

pub turned_back : (es : List Entry) → rising es ≡ true → map_of (map turned_entry es) ≡ back (map_of es)
turned_back es h = alike _ _ (λ q. get_mapped (λ e. turned e.1) es q h ∙ ap (option_map turned) (sym (get_rising es q h)) ∙ sym (get-each turned (map_of es) q))

pub deleted_as : (es : List Entry) → rising es ≡ true → map_of (map deleted_entry es) ≡ as_deleted (map_of es)
deleted_as es h = alike _ _ (λ q. get_mapped (λ e. one_deleted e.1) es q h ∙ ap (option_map one_deleted) (sym (get_rising es q h)) ∙ sym (get-each one_deleted (map_of es) q))

pub fresh_from : (m : Map Key) → map_of (map fresh_entry (entries m)) ≡ from_absent m
fresh_from m = alike _ _ (λ q. get_mapped (λ e. fresh e.1) (entries m) q (rising_entries m) ∙ ap (option_map fresh) (sym (get-entries m q)) ∙ sym (get-each fresh m q))

pub rising_fresh : (m : Map Key) → rising (map fresh_entry (entries m)) ≡ true
rising_fresh m = rising_mapped (λ e. fresh e.1) (entries m) ∙ rising_entries m

-- ---- those with a new value

below_inserted : (k : Key) (es : List Entry) → below k es ≡ true → below k (inserted_entries es) ≡ true
below_inserted k [] h = refl
below_inserted k (e ∷ es) h =
    let parts = and_parts (is_lt (slice_cmp nat_cmp k e.0)) (below k es) h in
    below_entry k e.0 (one_inserted e.1) (inserted_entries es) parts.0 (below_inserted k es parts.1)

pub rising_inserted : (es : List Entry) → rising es ≡ true → rising (inserted_entries es) ≡ true
rising_inserted [] h = refl
rising_inserted (e ∷ es) h = rising_entry e.0 (one_inserted e.1) (inserted_entries es) (below_inserted e.0 es (and_parts (below e.0 es) (rising es) h).0) (rising_inserted es (rising_tail e es h))

find_inserted : (q : Key) (es : List Entry) → rising es ≡ true → found q (inserted_entries es) ≡ option_and_then one_inserted (found q es)
find_inserted q [] h = refl
find_inserted q (e ∷ es) h =
    let rest = find_inserted q es (rising_tail e es h) in
    front q e.0 (one_inserted e.1) (inserted_entries es) (option_and_then one_inserted (found q (e ∷ es)))
    (λ t. rest ∙ ap (option_and_then one_inserted) (find_head q e es h t))
    (λ t. ap (option_and_then one_inserted) (sym (ap (λ b. cond b (Some e.1) (found q es)) t)))
    (λ t. rest ∙ ap (option_and_then one_inserted) (sym (ap (λ b. cond b (Some e.1) (found q es)) t)))

pub inserted_as : (es : List Entry) → rising es ≡ true → map_of (inserted_entries es) ≡ as_inserted (map_of es)
inserted_as es h = alike _ _ (λ q.
    get_rising (inserted_entries es) q (rising_inserted es h) ∙ find_inserted q es h ∙ ap (option_and_then one_inserted) (sym (get_rising es q h))
    ∙ sym (get-picked one_inserted (map_of es) q))

-- ---- with a map

fit_at : (es : List Entry) (m : Map Key) (q : Key) → all_fit es m ≡ true → fits_old (found q es) (get m q) ≡ true
fit_at [] m q h = refl
fit_at (e ∷ es) m q h =
    let parts = and_parts (fits_old (Some e.1) (get m e.0)) (all_fit es m) h in
    elim (at q e.0) as (λ b. at q e.0 ≡ b → fits_old (cond b (Some e.1) (found q es)) (get m q) ≡ true) [
      | true ↦ λ t. ap (λ k. fits_old (Some e.1) (get m k)) (at-is q e.0 t) ∙ parts.0
      | false ↦ λ t. fit_at es m q parts.1
    ] refl

fit_all : (es : List Entry) (m : Map Key) → rising es ≡ true → ((q : Key) → fits_old (found q es) (get m q) ≡ true) → all_fit es m ≡ true
fit_all [] m h f = refl
fit_all (e ∷ es) m h f = and_from _ _
    (sym (ap (λ b. fits_old (cond b (Some e.1) (found e.0 es)) (get m e.0)) (at_itself e.0)) ∙ f e.0)
    (fit_all es m (rising_tail e es h) (λ q. elim (at q e.0) as (λ b. at q e.0 ≡ b → fits_old (cond b (Some e.1) (found q es)) (get m q) ≡ true → fits_old (found q es) (get m q) ≡ true) [
      | true ↦ λ t s. ap (λ c. fits_old c (get m q)) (find_head q e es h t)
      | false ↦ λ t s. s
    ] refl (f q)))

pub fit_agrees : (es : List Entry) (m : Map Key) → rising es ≡ true → all_fit es m ≡ agrees (map_of es) m
fit_agrees es m h = both_ways _ _
    (λ e. matches_all fits_old (map_of es) m (λ q. ap (λ c. fits_old c (get m q)) (get_rising es q h) ∙ fit_at es m q e))
    (λ e. fit_all es m h (λ q. ap (λ c. fits_old c (get m q)) (sym (get_rising es q h)) ∙ matches_at fits_old (map_of es) m q refl e))

get_set : (m : Map Key) (k : Key) (v : Option Key) (q : Key) → get (set_key m k v) q ≡ cond (at q k) v (get m q)
get_set m k None q = get-remove nat_list_cmp_total m k q
get_set m k (Some v) q = get-insert nat_list_cmp_total m k v q

find_put : (es : List Entry) (m : Map Key) (q : Key) → rising es ≡ true → get (put_all es m) q ≡ set_new (found q es) (get m q)
find_put [] m q h = refl
find_put (e ∷ es) m q h =
    find_put es (set_key m e.0 e.1.new) q (rising_tail e es h) ∙ ap (set_new (found q es)) (get_set m e.0 e.1.new q)
    ∙ elim (at q e.0) as (λ b. at q e.0 ≡ b → set_new (found q es) (cond b e.1.new (get m q)) ≡ set_new (cond b (Some e.1) (found q es)) (get m q)) [
      | true ↦ λ t. ap (λ c. set_new c e.1.new) (find_head q e es h t)
      | false ↦ λ t. refl
    ] refl

pub put_merge : (es : List Entry) (m : Map Key) → rising es ≡ true → put_all es m ≡ put (map_of es) m
put_merge es m h = alike _ _ (λ q. find_put es m q h ∙ ap (λ c. set_new c (get m q)) (sym (get_rising es q h)) ∙ sym (get-merge set_new (map_of es) m q refl))
