-- Entries by name, in byte order. What each is to hosted histories is f of its value.
--     hist f es              the deltas of each name
--     hist_set               another value of a name that is there
--     place, put_at          where a search says that a new name belongs, and what `insert_sorted` does with it there
--     hist_put               the new name is in its place
--     deltas_hist            the deltas of a name are those of its entry
--     after_set, same_set    what is shown of a history that grew, or didn't
--     after_put, none_put    what is shown of a new one, with a delta and without
--     keys_ascend            the keys ascend then
--     all_set, all_put       what is so of each entry is so then
use Rattle.std.proofs.Common.{Less, Equal, ◌≡◌, ◌≢◌, ℕ, zero, suc, ◌+◌, ◌<◌, ◌≤◌, ⊎_elim, Bool, true, false, cond, List, [], ◌∷◌, ◌++◌, length, get_or, insert, map, Some, None, refl, sym, ap, subst, ◌∙◌, arith}
use Rattle.std.specs.Cmp.Lexicographic.{slice_cmp, bytes_decides}
use Rattle.std.specs.Option.{option_map_or}
use Rattle.std.specs.Ordering.{nat_cmp, is_lt, ordering_reverse}
use Rattle.std.specs.List.{AllByRecursion, HoldsAt, position_or_len}
use Rattle.std.specs.List.Sorted.{IsSorted}
use Rattle.std.specs.Map.{lookup, keys_of, set_value}
use Rattle.std.proofs.lemmas.Cmp.{nat_list_cmp_total}
use Rattle.std.proofs.lemmas.Bool.{cases_lt, le-ltb}
use Rattle.std.proofs.lemmas.List.{get_or_past}
use Rattle.std.proofs.lemmas.List.Sorted.{searchable_from_sorted}
use Rattle.indexmap.specs.Calls.{IsSearchIndex}
use Rattle.indexmap.specs.IndexMap.{move_index, insert_entry, index_before}
use Rattle.indexmap.proofs.MapLemmas.{absent_from_lookup, insert_entry-absent, or_len-absent}
use Rattle.indexmap.proofs.MoveLemmas.{push_moved}
use Rattle.doc_items.specs.Maps.{Key, same_text}
use Rattle.wavelet_op.specs.Deltas.{DeltaOf}
use Rattle.delta_history.specs.Copying.{AscendFrom, AreAscending}
use Rattle.wavelet_shelf.specs.Entries.{shown, IsPlace}
use Rattle.wavelet_shelf.specs.Hosting.{Hosted, names_of, deltas_in, grown_in}
use Rattle.wavelet_shelf.proofs.Names.{own, decided, lower, any, tied, even, turned, below_none}
use Rattle.wavelet_shelf.proofs.Growing.{put_in, put_by, hosted, names_put, deltas_shown, shown_grown, shown_none}

no_value : {X T : Type 0} {x : X} → None ≡ Some x → T
no_value e = absurd (cc)

same_Some : {X : Type 0} {x y : X} → Some x ≡ Some y → x ≡ y
same_Some e = cc

module _ {V : Type 0} (f : V → List DeltaOf) where
  abbrev pub hist : List (Key × V) → List Hosted
  hist es = map (λ e. hosted e.0 (f e.1)) es

  names_hist : (es : List (Key × V)) → names_of (hist es) ≡ keys_of es
  names_hist [] = refl
  names_hist (e ∷ es) = ap (λ ns. e.0 ∷ ns) (names_hist es)

  pub hist_ascends : (es : List (Key × V)) → AreAscending (keys_of es) → AreAscending (names_of (hist es))
  hist_ascends es a = subst AreAscending (sym (names_hist es)) a

  -- a name that is there is above those below all
  pub found_above : (k n : Key) (es : List (Key × V)) (v : V) → AscendFrom k (keys_of es) → lookup (same_text n) es ≡ Some v → slice_cmp nat_cmp k n ≡ Less
  found_above k n [] v a e = no_value e
  found_above k n (x ∷ es) v a e = go (λ g. found_above k n es v (lower k x.0 (keys_of es) a.0 a.1) g) (same_text n x.0) refl e
    where
      go : (lookup (same_text n) es ≡ Some v → slice_cmp nat_cmp k n ≡ Less) → (t : Bool) → same_text n x.0 ≡ t → cond t (Some x.1) (lookup (same_text n) es) ≡ Some v → slice_cmp nat_cmp k n ≡ Less
      go rest true s g = subst (λ m. slice_cmp nat_cmp k m ≡ Less) (sym ((bytes_decides n x.0).0 s)) a.0
      go rest false s g = rest g

  pub hist_set : (es : List (Key × V)) (n : Key) (v w : V) → AreAscending (keys_of es) → lookup (same_text n) es ≡ Some v → hist (set_value (same_text n) es w) ≡ put_in (hosted n (f w)) (hist es)
  hist_set [] n v w a e = no_value e
  hist_set (x ∷ es) n v w a e = go (λ g. hist_set es n v w (any x.0 (keys_of es) a) g) (same_text n x.0) refl e
    where
      go : (lookup (same_text n) es ≡ Some v → hist (set_value (same_text n) es w) ≡ put_in (hosted n (f w)) (hist es)) → (t : Bool) → same_text n x.0 ≡ t → cond t (Some x.1) (lookup (same_text n) es) ≡ Some v
          → hist (cond t ((x.0, w) ∷ es) (x ∷ set_value (same_text n) es w)) ≡ put_in (hosted n (f w)) (hist (x ∷ es))
      go rest true s g =
          let is = (bytes_decides n x.0).0 s in
          ap (λ k. hosted k (f w) ∷ hist es) (sym is) ∙ sym (ap (λ o. put_by o (hosted n (f w)) (hosted x.0 (f x.1)) (hist es) (put_in (hosted n (f w)) (hist es))) (subst (λ k. slice_cmp nat_cmp n k ≡ Equal) is (even n)))
      go rest false s g =
          let above = turned x.0 n ∙ ap ordering_reverse (found_above x.0 n es v a g) in
          ap (λ hs. hosted x.0 (f x.1) ∷ hs) (rest g) ∙ sym (ap (λ o. put_by o (hosted n (f w)) (hosted x.0 (f x.1)) (hist es) (put_in (hosted n (f w)) (hist es))) above)

  -- ---- a new name

  pub hist_put : (es : List (Key × V)) (n : Key) (w : V) (i : ℕ) → IsPlace n (keys_of es) i → hist (insert es i (n, w)) ≡ put_in (hosted n (f w)) (hist es)
  hist_put [] n w zero p = refl
  hist_put [] n w (suc i) p = absurd (let le = p.inside in omega (arith, le))
  hist_put (x ∷ es) n w zero p =
      let first = turned x.0 n ∙ ap ordering_reverse (p.above 0 n (omega arith) (omega arith)) in
      sym (ap (λ o. put_by o (hosted n (f w)) (hosted x.0 (f x.1)) (hist es) (put_in (hosted n (f w)) (hist es))) first)
  hist_put (x ∷ es) n w (suc i) p =
      let first = turned x.0 n ∙ ap ordering_reverse (p.below 0 n (omega arith) (omega arith)) in
      let le = p.inside in
      let rest : IsPlace n (keys_of es) i = record {
        inside = omega (arith, le);
        below = λ k d low high. p.below (suc k) d (omega arith) (omega (arith, high));
        above = λ k d low high. p.above (suc k) d (omega (arith, low)) (omega (arith, high));
      } in
      ap (λ hs. hosted x.0 (f x.1) ∷ hs) (hist_put es n w i rest) ∙ sym (ap (λ o. put_by o (hosted n (f w)) (hosted x.0 (f x.1)) (hist es) (put_in (hosted n (f w)) (hist es))) first)

  pub deltas_hist : (es : List (Key × V)) (n : Key) → deltas_in (hist es) n ≡ option_map_or f (lookup (same_text n) es) []
  deltas_hist [] n = refl
  deltas_hist (x ∷ es) n = go (deltas_hist es n) (same_text n x.0)
    where
      go : deltas_in (hist es) n ≡ option_map_or f (lookup (same_text n) es) [] → (t : Bool) → cond t (f x.1) (deltas_in (hist es) n) ≡ option_map_or f (cond t (Some x.1) (lookup (same_text n) es)) []
      go rest true = refl
      go rest false = rest

  pub deltas_hosting : (es : List (Key × V)) (n : Key) → AreAscending (keys_of es) → deltas_in (shown (hist es)) n ≡ option_map_or f (lookup (same_text n) es) []
  deltas_hosting es n a = deltas_shown (hist es) n (hist_ascends es a) ∙ deltas_hist es n

  -- ---- what is shown

  pub after_set : (es : List (Key × V)) (n : Key) (v w : V) (d : DeltaOf) → AreAscending (keys_of es) → lookup (same_text n) es ≡ Some v → f w ≡ f v ++ d ∷ [] → shown (hist (set_value (same_text n) es w)) ≡ grown_in (shown (hist es)) n d
  after_set es n v w d a e more =
      let old : deltas_in (hist es) n ≡ f v = deltas_hist es n ∙ ap (λ o. option_map_or f o []) e in
      ap shown (hist_set es n v w a e ∙ ap (λ ds. put_in (hosted n ds) (hist es)) (more ∙ ap (λ ds. ds ++ d ∷ []) (sym old))) ∙ shown_grown (hist es) n d (hist_ascends es a)

  pub same_set : (es : List (Key × V)) (n : Key) (v w : V) → lookup (same_text n) es ≡ Some v → f w ≡ f v → hist (set_value (same_text n) es w) ≡ hist es
  same_set [] n v w e same = refl
  same_set (x ∷ es) n v w e same = go (λ g. same_set es n v w g same) (same_text n x.0) e
    where
      go : (lookup (same_text n) es ≡ Some v → hist (set_value (same_text n) es w) ≡ hist es) → (t : Bool) → cond t (Some x.1) (lookup (same_text n) es) ≡ Some v
          → hist (cond t ((x.0, w) ∷ es) (x ∷ set_value (same_text n) es w)) ≡ hist (x ∷ es)
      go rest true g = ap (λ ds. hosted x.0 ds ∷ hist es) (same ∙ ap f (sym (same_Some g)))
      go rest false g = ap (λ hs. hosted x.0 (f x.1) ∷ hs) (rest g)

  pub after_put : (es : List (Key × V)) (n : Key) (w : V) (i : ℕ) (d : DeltaOf) → AreAscending (keys_of es) → lookup (same_text n) es ≡ None → IsPlace n (keys_of es) i → f w ≡ d ∷ [] → shown (hist (insert es i (n, w))) ≡ grown_in (shown (hist es)) n d
  after_put es n w i d a none p first =
      let old : deltas_in (hist es) n ≡ [] = deltas_hist es n ∙ ap (λ o. option_map_or f o []) none in
      ap shown (hist_put es n w i p ∙ ap (λ ds. put_in (hosted n ds) (hist es)) (first ∙ ap (λ ds. ds ++ d ∷ []) (sym old))) ∙ shown_grown (hist es) n d (hist_ascends es a)

  pub none_put : (es : List (Key × V)) (n : Key) (w : V) (i : ℕ) → AreAscending (keys_of es) → lookup (same_text n) es ≡ None → IsPlace n (keys_of es) i → f w ≡ [] → shown (hist (insert es i (n, w))) ≡ shown (hist es)
  none_put es n w i a none p empty =
      let old : deltas_in (hist es) n ≡ [] = deltas_hist es n ∙ ap (λ o. option_map_or f o []) none in
      ap shown (hist_put es n w i p ∙ ap (λ ds. put_in (hosted n ds) (hist es)) empty) ∙ shown_none (hist es) n (hist_ascends es a) old

  pub keys_ascend : (es : List (Key × V)) (n : Key) (w : V) (i : ℕ) → AreAscending (keys_of es) → IsPlace n (keys_of es) i → AreAscending (keys_of (insert es i (n, w)))
  keys_ascend es n w i a p = subst AreAscending (ap names_of (sym (hist_put es n w i p)) ∙ names_hist (insert es i (n, w))) (names_put (hosted n (f w)) (hist es) (hist_ascends es a))

  pub all_set : (P : Key × V → Type 0) (es : List (Key × V)) (n : Key) (w : V) → AllByRecursion P es → P (n, w) → AllByRecursion P (set_value (same_text n) es w)
  all_set P [] n w ps p = tt
  all_set P (x ∷ es) n w ps p = go (all_set P es n w ps.1 p) (same_text n x.0) refl
    where
      go : AllByRecursion P (set_value (same_text n) es w) → (t : Bool) → same_text n x.0 ≡ t → AllByRecursion P (cond t ((x.0, w) ∷ es) (x ∷ set_value (same_text n) es w))
      go rest true s = (subst (λ k. P (k, w)) ((bytes_decides n x.0).0 s) p, ps.1)
      go rest false s = (ps.0, rest)

  pub all_put : (P : Key × V → Type 0) (es : List (Key × V)) (i : ℕ) (x : Key × V) → i ≤ length es → AllByRecursion P es → P x → AllByRecursion P (insert es i x)
  all_put P es zero x le ps p = (p, ps)
  all_put P [] (suc i) x le ps p = absurd (omega (arith, le))
  all_put P (e ∷ es) (suc i) x le ps p = (ps.0, all_put P es i x (omega (arith, le)) ps.1 p)

  pub all_found : (P : Key × V → Type 0) (es : List (Key × V)) (n : Key) (v : V) → AllByRecursion P es → lookup (same_text n) es ≡ Some v → P (n, v)
  all_found P [] n v ps e = no_value e
  all_found P (x ∷ es) n v ps e = go (λ g. all_found P es n v ps.1 g) (same_text n x.0) refl e
    where
      go : (lookup (same_text n) es ≡ Some v → P (n, v)) → (t : Bool) → same_text n x.0 ≡ t → cond t (Some x.1) (lookup (same_text n) es) ≡ Some v → P (n, v)
      go rest true s g = subst (λ k. P (k, v)) (sym ((bytes_decides n x.0).0 s)) (subst (λ u. P (x.0, u)) (same_Some g) ps.0)
      go rest false s g = rest g

-- ---- the place that a search gives

ascend_at : (ks : List Key) (k : ℕ) (d : Key) → AreAscending ks → suc k < length ks → is_lt (slice_cmp nat_cmp (get_or ks (suc k) d) (get_or ks k d)) ≡ false
ascend_at [] k d a lt = absurd (omega (arith, lt))
ascend_at (x ∷ []) k d a lt = absurd (omega (arith, lt))
ascend_at (x ∷ y ∷ ks) zero d a lt = ap is_lt (turned x y ∙ ap ordering_reverse a.0)
ascend_at (x ∷ y ∷ ks) (suc k) d a lt = ascend_at (y ∷ ks) k d a.1 (omega (arith, lt))

sorted : (ks : List Key) → AreAscending ks → IsSorted (slice_cmp nat_cmp) ks
sorted ks a k d low high =
    let next : suc k ≡ k + 1 = omega arith in
    subst (λ j. is_lt (slice_cmp nat_cmp (get_or ks j d) (get_or ks k d)) ≡ false) next (ascend_at ks k d a (omega (arith, high)))

-- no key that is there is even with one that isn't
not_even : {V : Type 0} (es : List (Key × V)) (n : Key) (j : ℕ) (d : Key) → lookup (same_text n) es ≡ None → j < length (keys_of es) → slice_cmp nat_cmp (get_or (keys_of es) j d) n ≡ Equal → ⊥
not_even [] n j d none lt e = omega (arith, lt)
not_even (x ∷ es) n zero d none lt e =
    let t : same_text n x.0 ≡ true = subst (λ k. same_text n k ≡ true) (sym (tied x.0 n e)) (own n) in
    no_value (sym none ∙ ap (λ t. cond t (Some x.1) (lookup (same_text n) es)) t)
not_even (x ∷ es) n (suc j) d none lt e = go (same_text n x.0) (λ g. not_even es n j d g (omega (arith, lt)) e) none
  where
    go : (t : Bool) → (lookup (same_text n) es ≡ None → ⊥) → cond t (Some x.1) (lookup (same_text n) es) ≡ None → ⊥
    go true rest g = no_value (sym g)
    go false rest g = rest g

-- nothing is even with every name
never_even : (n : Key) → ((d : Key) → slice_cmp nat_cmp d n ≡ Equal) → ⊥
never_even n all = nil_is (tied [] n (all []) ∙ sym (tied (0 ∷ []) n (all (0 ∷ []))))
  where
    nil_is : {x : ℕ} {xs : Key} → [] ≡ x ∷ xs → ⊥
    nil_is e = cc

found_nowhere : {V : Type 0} (es : List (Key × V)) (n : Key) (i : ℕ) → lookup (same_text n) es ≡ None → i ≤ length (keys_of es) → HoldsAt (λ k. slice_cmp nat_cmp k n ≡ Equal) (keys_of es) i → ⊥
found_nowhere es n i none le even_at = ⊎_elim
    (λ lt. not_even es n i n none lt (even_at n))
    (λ past. never_even n (λ d. subst (λ k. slice_cmp nat_cmp k n ≡ Equal) (get_or_past (keys_of es) i d past) (even_at d)))
    (cases_lt i (length (keys_of es)))

pub place : {V : Type 0} (es : List (Key × V)) (n : Key) (i : ℕ) → AreAscending (keys_of es) → lookup (same_text n) es ≡ None → IsSearchIndex (λ k. slice_cmp nat_cmp k n) (keys_of es) i → IsPlace n (keys_of es) i
place es n i a none search = ⊎_elim
    (λ here. absurd (found_nowhere es n i none search.0 here))
    (λ point.
    let parts = point (searchable_from_sorted nat_list_cmp_total (λ k. k) (keys_of es) n (sorted (keys_of es) a)) in
    record { inside = search.0; below = parts.0; above = parts.1 })
    search.1

pub length_keys : {V : Type 0} (es : List (Key × V)) → length (keys_of es) ≡ length es
length_keys [] = refl
length_keys (e ∷ es) = ap suc (length_keys es)

index_past : (n i : ℕ) → i ≤ n → index_before n i ≡ i
index_past n i le = rw (le-ltb n i le) refl

-- what `insert_sorted` makes of the entries
pub put_at : {V : Type 0} (es : List (Key × V)) (n : Key) (w : V) (i to : ℕ) → lookup (same_text n) es ≡ None → i ≤ length (keys_of es) → to ≡ index_before (position_or_len (same_text n) (keys_of es)) i
    → move_index (insert_entry same_text es n w) (position_or_len (same_text n) (keys_of es)) to ≡ insert es i (n, w)
put_at es n w i to none le e =
    let absent = absent_from_lookup (same_text n) es none in
    let last : position_or_len (same_text n) (keys_of es) ≡ length es = or_len-absent (same_text n) es absent in
    let long : length (keys_of es) ≡ length es = length_keys es in
    let below : i ≤ length es = omega (arith, le, long) in
    let is : to ≡ i = e ∙ ap (λ p. index_before p i) last ∙ index_past (length es) i below in
    (λ j. move_index (insert_entry-absent same_text n w es absent j) (last j) (is j)) ∙ push_moved es (n, w) i below

-- ---- look-ups

module _ {V : Type 0} where
  pub found_set : (es : List (Key × V)) (n : Key) (v w : V) → lookup (same_text n) es ≡ Some v → lookup (same_text n) (set_value (same_text n) es w) ≡ Some w
  found_set [] n v w e = no_value e
  found_set (x ∷ es) n v w e = go (λ g. found_set es n v w g) (same_text n x.0) refl e
    where
      go : (lookup (same_text n) es ≡ Some v → lookup (same_text n) (set_value (same_text n) es w) ≡ Some w) → (t : Bool) → same_text n x.0 ≡ t → cond t (Some x.1) (lookup (same_text n) es) ≡ Some v
          → lookup (same_text n) (cond t ((x.0, w) ∷ es) (x ∷ set_value (same_text n) es w)) ≡ Some w
      go rest true s g = ap (λ t. cond t (Some w) (lookup (same_text n) es)) s
      go rest false s g = ap (λ t. cond t (Some x.1) (lookup (same_text n) (set_value (same_text n) es w))) s ∙ rest g

  pub others_set : (es : List (Key × V)) (n : Key) (w : V) (m : Key) → m ≢ n → lookup (same_text m) (set_value (same_text n) es w) ≡ lookup (same_text m) es
  others_set [] n w m other = refl
  others_set (x ∷ es) n w m other = go (others_set es n w m other) (same_text n x.0) refl
    where
      go : lookup (same_text m) (set_value (same_text n) es w) ≡ lookup (same_text m) es → (t : Bool) → same_text n x.0 ≡ t → lookup (same_text m) (cond t ((x.0, w) ∷ es) (x ∷ set_value (same_text n) es w)) ≡ lookup (same_text m) (x ∷ es)
      go rest true s =
          let apart = decided m x.0 (λ e. other (e ∙ sym ((bytes_decides n x.0).0 s))) in
          ap (λ t. cond t (Some w) (lookup (same_text m) es)) apart ∙ sym (ap (λ t. cond t (Some x.1) (lookup (same_text m) es)) apart)
      go rest false s = ap (cond (same_text m x.0) (Some x.1)) rest

  pub found_put : (es : List (Key × V)) (n : Key) (w : V) (i : ℕ) → i ≤ length es → lookup (same_text n) es ≡ None → lookup (same_text n) (insert es i (n, w)) ≡ Some w
  found_put es n w zero le none = ap (λ t. cond t (Some w) (lookup (same_text n) es)) (own n)
  found_put [] n w (suc i) le none = absurd (omega (arith, le))
  found_put (x ∷ es) n w (suc i) le none = go (same_text n x.0) (λ g. found_put es n w i (omega (arith, le)) g) none
    where
      go : (t : Bool) → (lookup (same_text n) es ≡ None → lookup (same_text n) (insert es i (n, w)) ≡ Some w) → cond t (Some x.1) (lookup (same_text n) es) ≡ None → cond t (Some x.1) (lookup (same_text n) (insert es i (n, w))) ≡ Some w
      go true rest g = no_value (sym g)
      go false rest g = rest g

  pub others_put : (es : List (Key × V)) (n : Key) (w : V) (i : ℕ) (m : Key) → m ≢ n → i ≤ length es → lookup (same_text m) (insert es i (n, w)) ≡ lookup (same_text m) es
  others_put es n w zero m other le = ap (λ t. cond t (Some w) (lookup (same_text m) es)) (decided m n other)
  others_put [] n w (suc i) m other le = absurd (omega (arith, le))
  others_put (x ∷ es) n w (suc i) m other le = ap (cond (same_text m x.0) (Some x.1)) (others_put es n w i m other (omega (arith, le)))

  -- an entry is found by its name
  pub found_last : (es : List (Key × V)) (n : Key) (v : V) → AreAscending (keys_of (es ++ (n, v) ∷ [])) → lookup (same_text n) (es ++ (n, v) ∷ []) ≡ Some v
  found_last [] n v a = ap (λ t. cond t (Some v) None) (own n)
  found_last (x ∷ es) n v a = ap (λ t. cond t (Some x.1) (lookup (same_text n) (es ++ (n, v) ∷ []))) (decided n x.0 (λ e. below_none x.0 (subst (λ k. slice_cmp nat_cmp x.0 k ≡ Less) e (last_above x.0 es n v a)))) ∙ found_last es n v (any x.0 (keys_of (es ++ (n, v) ∷ [])) a)
    where
      last_above : (k : Key) (xs : List (Key × V)) (n : Key) (v : V) → AscendFrom k (keys_of (xs ++ (n, v) ∷ [])) → slice_cmp nat_cmp k n ≡ Less
      last_above k [] n v a = a.0
      last_above k (y ∷ ys) n v a = nat_list_cmp_total.trans k y.0 n a.0 (last_above y.0 ys n v a.1)

  -- what is so of entries is so of those in front
  front_ascends_from : (k : Key) (es : List (Key × V)) (x : Key × V) → AscendFrom k (keys_of (es ++ x ∷ [])) → AscendFrom k (keys_of es)
  front_ascends_from k [] x a = tt
  front_ascends_from k (e ∷ es) x a = (a.0, front_ascends_from e.0 es x a.1)

  pub front_ascends : (es : List (Key × V)) (x : Key × V) → AreAscending (keys_of (es ++ x ∷ [])) → AreAscending (keys_of es)
  front_ascends [] x a = tt
  front_ascends (e ∷ es) x a = front_ascends_from e.0 es x a

  pub all_front : (P : Key × V → Type 0) (es : List (Key × V)) (x : Key × V) → AllByRecursion P (es ++ x ∷ []) → AllByRecursion P es
  all_front P [] x ps = tt
  all_front P (e ∷ es) x ps = (ps.0, all_front P es x ps.1)

  pub all_last : (P : Key × V → Type 0) (es : List (Key × V)) (x : Key × V) → AllByRecursion P (es ++ x ∷ []) → P x
  all_last P [] x ps = ps.0
  all_last P (e ∷ es) x ps = all_last P es x ps.1
