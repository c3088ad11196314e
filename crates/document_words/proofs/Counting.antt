-- How often words stand in documents, as the maps change.
--     counts_at, no_counts     a count is put at a document; there is none
--     set_more, set_less       a count more or less by one
--     value_more, value_less, value_gone, value_none, value_rest     what stands at a key, where that is counted further
--     put_next, take_next      a word more is put in or taken out
--     in_order, among          the documents that a word stands in
use Rattle.std.proofs.Common.{Less, ◌||◌, nat_lt, length, drop, get_or, drop-cons, add-one, arith, Result, Ok, Err, OnOk, ◌≡◌, ℕ, ◌+◌, ◌-◌, ◌<◌, Bool, true, false, cond, ◌&&◌, List, [], ◌∷◌, refl, sym, ap, subst, ◌∙◌, Option, Some, None, unwrap_or, is_some, is_eq, IsSome, true≢false}
use Rattle.std.specs.BTreeMap as tree
use Rattle.std.specs.Cmp.Lexicographic.{slice_cmp, texts_ties, bytes_decides}
use Rattle.std.specs.List.{AllByRecursion, filter, list_any}
use Rattle.std.specs.List.Sorted.{IsStrictlySortedBy}
use Rattle.std.specs.Map.{keys_of, lookup}
use Rattle.std.proofs.lemmas.Cmp.{nat_list_cmp_total, eq_by_cmp_equiv}
use Rattle.std.proofs.lemmas.Map.Entries.{option_filter, lookup-filter-values}
use Rattle.std.proofs.lemmas.Map.Keys.{IsDistinct-from_sorted}
use Rattle.std.specs.Option.{option_map_or}
use Rattle.std.specs.Ordering.{nat_cmp, eq_by_cmp}
use Rattle.doc_items.specs.Maps.{Key, same_text}
use Rattle.document_words.specs.Places.{count_at}
use Rattle.document_words.specs.Words.{occurrences}
use Rattle.document_words.specs.declared.wavelets.WaveletCounts.{WaveletCounts}

-- ---- counts by document

abbrev pub Counts : Type 0
Counts = tree.BTreeMap Key ℕ

chosen : (b : Bool) (v o : Option ℕ) → unwrap_or (cond b v o) 0 ≡ cond b (unwrap_or v 0) (unwrap_or o 0)
chosen true v o = refl
chosen false v o = refl

-- what a map answers after a change at k
abbrev pub Answers : {X : Type 0} → tree.BTreeMap Key X → tree.BTreeMap Key X → Key → Option X → Type 0
Answers m n k v = (q : Key) → tree.get (slice_cmp nat_cmp) n q ≡ cond (is_eq (slice_cmp nat_cmp k q)) v (tree.get (slice_cmp nat_cmp) m q)

number : Counts → Key → ℕ
number m q = unwrap_or (tree.get (slice_cmp nat_cmp) m q) 0

pub counts_at : (m n : Counts) (k : Key) (v : Option ℕ) → Answers m n k v → (q : Key) → unwrap_or (tree.get (slice_cmp nat_cmp) n q) 0 ≡ cond (same_text k q) (unwrap_or v 0) (unwrap_or (tree.get (slice_cmp nat_cmp) m q) 0)
counts_at m n k v u q =
    ap (λ (o : Option ℕ). unwrap_or o 0) (u q)
    ∙ chosen (is_eq (slice_cmp nat_cmp k q)) v (tree.get (slice_cmp nat_cmp) m q)
    ∙ ap (λ b. cond b (unwrap_or v 0) (unwrap_or (tree.get (slice_cmp nat_cmp) m q) 0)) (sym (texts_ties k q))

pub there_of : (o : Option ℕ) → 0 < unwrap_or o 0 → IsSome o
there_of None h = absurd (omega arith)
there_of (Some x) h = refl

pub no_counts : (m : Counts) → m.entries ≡ [] → (q : Key) → unwrap_or (tree.get (slice_cmp nat_cmp) m q) 0 ≡ 0
no_counts m e q = ap (λ (es : List (Key × ℕ)). unwrap_or (lookup (λ k. is_eq (slice_cmp nat_cmp q k)) es) 0) e

-- a count that is set to another at one document
pub set_more : (f g : Key → ℕ) (k : Key) (v : ℕ) → ((q : Key) → g q ≡ cond (same_text k q) v (f q)) → v ≡ f k + 1 → (q : Key) → g q ≡ f q + cond (same_text k q) 1 0
set_more f g k v h e q = h q ∙ go (same_text k q) refl
  where
    go : (b : Bool) → same_text k q ≡ b → cond b v (f q) ≡ f q + cond b 1 0
    go true t = e ∙ ap (λ z. f z + 1) ((bytes_decides k q).0 t)
    go false t = omega arith

pub set_less : (f g : Key → ℕ) (k : Key) (v : ℕ) → ((q : Key) → g q ≡ cond (same_text k q) v (f q)) → v ≡ f k - 1 → (q : Key) → g q ≡ f q - cond (same_text k q) 1 0
set_less f g k v h e q = h q ∙ go (same_text k q) refl
  where
    go : (b : Bool) → same_text k q ≡ b → cond b v (f q) ≡ f q - cond b 1 0
    go true t = e ∙ ap (λ z. f z - 1) ((bytes_decides k q).0 t)
    go false t = omega arith

-- ---- what is there

pub any_there : {X : Type 0} (t : Key → Bool) (es : List (Key × X)) → list_any t (keys_of es) ≡ is_some (lookup t es)
any_there t [] = refl
any_there t (e ∷ es) = go (any_there t es) (t e.0)
  where
    go : list_any t (keys_of es) ≡ is_some (lookup t es) → (b : Bool) → (b || list_any t (keys_of es)) ≡ is_some (cond b (Some e.1) (lookup t es))
    go again true = refl
    go again false = again

none_of : {A : Type 0} (o : Option A) → is_some o ≡ false → o ≡ None
none_of None e = refl
none_of (Some x) e = absurd (true≢false e)

none_there : {X : Type 0} (t : Key → Bool) (es : List (Key × X)) → list_any t (keys_of es) ≡ false → lookup t es ≡ None
none_there t es h = none_of (lookup t es) (sym (any_there t es) ∙ h)

-- ---- maps of what is counted further

module _ {X Q : Type 0} (count : X → Q → ℕ) where
  abbrev pub at : tree.BTreeMap Key X → Key → Q → ℕ
  at m k q = option_map_or (λ x. count x q) (tree.get (slice_cmp nat_cmp) m k) 0

  picked : (b : Bool) (c o : Option X) (q : Q) → option_map_or (λ x. count x q) (cond b c o) 0 ≡ cond b (option_map_or (λ x. count x q) c 0) (option_map_or (λ x. count x q) o 0)
  picked true c o q = refl
  picked false c o q = refl

  pub values_at : (m n : tree.BTreeMap Key X) (k : Key) (c : Option X) → Answers m n k c → (w : Key) (q : Q) → at n w q ≡ cond (same_text k w) (option_map_or (λ x. count x q) c 0) (at m w q)
  values_at m n k c u w q =
      ap (λ (o : Option X). option_map_or (λ x. count x q) o 0) (u w)
      ∙ picked (is_eq (slice_cmp nat_cmp k w)) c (tree.get (slice_cmp nat_cmp) m w) q
      ∙ ap (λ b. cond b (option_map_or (λ x. count x q) c 0) (at m w q)) (sym (texts_ties k w))

  -- what stands at a key goes from c to e
  pub value_more : (m n : tree.BTreeMap Key X) (k : Key) (c : Option X) (e : X) (t : Q → Bool) → tree.get (slice_cmp nat_cmp) m k ≡ c → Answers m n k (Some e)
      → ((q : Q) → count e q ≡ option_map_or (λ x. count x q) c 0 + cond (t q) 1 0) → (w : Key) (q : Q) → at n w q ≡ at m w q + cond (same_text k w && t q) 1 0
  value_more m n k c e t g u h w q = values_at m n k (Some e) u w q ∙ go (same_text k w) refl
    where
      go : (b : Bool) → same_text k w ≡ b → cond b (count e q) (at m w q) ≡ at m w q + cond (b && t q) 1 0
      go true f = h q ∙ ap (λ (o : Option X). option_map_or (λ x. count x q) o 0 + cond (t q) 1 0) (sym g ∙ ap (tree.get (slice_cmp nat_cmp) m) ((bytes_decides k w).0 f))
      go false f = omega arith

  pub value_less : (m n : tree.BTreeMap Key X) (k : Key) (c : Option X) (e : X) (t : Q → Bool) → tree.get (slice_cmp nat_cmp) m k ≡ c → Answers m n k (Some e)
      → ((q : Q) → count e q ≡ option_map_or (λ x. count x q) c 0 - cond (t q) 1 0) → (w : Key) (q : Q) → at n w q ≡ at m w q - cond (same_text k w && t q) 1 0
  value_less m n k c e t g u h w q = values_at m n k (Some e) u w q ∙ go (same_text k w) refl
    where
      go : (b : Bool) → same_text k w ≡ b → cond b (count e q) (at m w q) ≡ at m w q - cond (b && t q) 1 0
      go true f = h q ∙ ap (λ (o : Option X). option_map_or (λ x. count x q) o 0 - cond (t q) 1 0) (sym g ∙ ap (tree.get (slice_cmp nat_cmp) m) ((bytes_decides k w).0 f))
      go false f = omega arith

  pub value_gone : (m n : tree.BTreeMap Key X) (k : Key) (c : X) → tree.get (slice_cmp nat_cmp) m k ≡ Some c → Answers m n k None → ((q : Q) → count c q ≡ 0) → (w : Key) (q : Q) → at n w q ≡ at m w q
  value_gone m n k c g u h w q = values_at m n k None u w q ∙ go (same_text k w) refl
    where
      go : (b : Bool) → same_text k w ≡ b → cond b 0 (at m w q) ≡ at m w q
      go true f = sym (ap (λ (o : Option X). option_map_or (λ x. count x q) o 0) (ap (tree.get (slice_cmp nat_cmp) m) (sym ((bytes_decides k w).0 f)) ∙ g) ∙ h q)
      go false f = refl

  pub value_none : (m : tree.BTreeMap Key X) → m.entries ≡ [] → (w : Key) (q : Q) → at m w q ≡ 0
  value_none m e w q = ap (λ (es : List (Key × X)). option_map_or (λ x. count x q) (lookup (λ k. is_eq (slice_cmp nat_cmp w k)) es) 0) e

  -- nothing stands at what isn't among the keys
  pub value_rest : (m : tree.BTreeMap Key X) (w : Key) → list_any (eq_by_cmp (slice_cmp nat_cmp) w) (keys_of m.entries) ≡ false → (q : Q) → at m w q ≡ 0
  value_rest m w h q = ap (λ (o : Option X). option_map_or (λ x. count x q) o 0) (none_there (eq_by_cmp (slice_cmp nat_cmp) w) m.entries h)

abbrev pub by_document : WaveletCounts → Key × Key → ℕ
by_document c q = count_at c q.0 q.1

pub there_as : {A : Type 0} (o p : Option A) → o ≡ p → IsSome o → IsSome p
there_as o p e h = subst (λ z. IsSome z) e h

-- ---- one word after the other

same_back : (b c : Bool) → (b ≡ true → c ≡ true) → (c ≡ true → b ≡ true) → b ≡ c
same_back true true f g = refl
same_back true false f g = sym (f refl)
same_back false true f g = g refl
same_back false false f g = refl

pub same_both_ways : (a b : Key) → same_text a b ≡ same_text b a
same_both_ways a b = same_back _ _ (λ e. (bytes_decides b a).1 (sym ((bytes_decides a b).0 e))) (λ e. (bytes_decides a b).1 (sym ((bytes_decides b a).0 e)))

next_word : (w k : Key) (ws : List Key) (i : ℕ) → i < length ws → k ≡ get_or ws i k → occurrences w (drop i ws) ≡ cond (same_text k w) 1 0 + occurrences w (drop (i + 1) ws)
next_word w k ws i h e = ap (occurrences w) (drop-cons ws i k h ∙ (λ j. sym e j ∷ drop (sym (add-one i) j) ws)) ∙ ap (λ b. cond b 1 0 + occurrences w (drop (i + 1) ws)) (same_both_ways w k)

more_left : (b c : Bool) (x y z t u : ℕ) → y ≡ x + cond (c && b) 1 0 → x + cond b t 0 ≡ u → t ≡ cond c 1 0 + z → y + cond b z 0 ≡ u
more_left true true x y z t u p q r = omega arith
more_left true false x y z t u p q r = omega arith
more_left false true x y z t u p q r = omega arith
more_left false false x y z t u p q r = omega arith

less_left : (b c : Bool) (x y z t u : ℕ) → y ≡ x - cond (c && b) 1 0 → x - cond b t 0 ≡ u → t ≡ cond c 1 0 + z → y - cond b z 0 ≡ u
less_left true true x y z t u p q r = omega arith
less_left true false x y z t u p q r = omega arith
less_left false true x y z t u p q r = omega arith
less_left false false x y z t u p q r = omega arith

pub put_next : (w k : Key) (b : Bool) (ws : List Key) (i : ℕ) (x y u : ℕ) → i < length ws → k ≡ get_or ws i k → y ≡ x + cond (same_text k w && b) 1 0
    → x + cond b (occurrences w (drop i ws)) 0 ≡ u → y + cond b (occurrences w (drop (i + 1) ws)) 0 ≡ u
put_next w k b ws i x y u h e p q = more_left b (same_text k w) x y _ _ u p q (next_word w k ws i h e)

pub take_next : (w k : Key) (b : Bool) (ws : List Key) (i : ℕ) (x y u : ℕ) → i < length ws → k ≡ get_or ws i k → y ≡ x - cond (same_text k w && b) 1 0
    → x - cond b (occurrences w (drop i ws)) 0 ≡ u → y - cond b (occurrences w (drop (i + 1) ws)) 0 ≡ u
take_next w k b ws i x y u h e p q = less_left b (same_text k w) x y _ _ u p q (next_word w k ws i h e)

-- ---- the documents that a word stands in

none_below : {X : Type 0} (p : Key × X → Bool) (k : Key) (es : List (Key × X)) → AllByRecursion (λ y. slice_cmp nat_cmp k y ≡ Less) (keys_of es) → AllByRecursion (λ y. slice_cmp nat_cmp k y ≡ Less) (keys_of (filter p es))
none_below p k [] h = tt
none_below p k (e ∷ es) h = go (none_below p k es h.1) (p e)
  where
    go : AllByRecursion (λ y. slice_cmp nat_cmp k y ≡ Less) (keys_of (filter p es)) → (b : Bool) → AllByRecursion (λ y. slice_cmp nat_cmp k y ≡ Less) (keys_of (cond b (e ∷ filter p es) (filter p es)))
    go rest true = (h.0, rest)
    go rest false = rest

pub in_order : {X : Type 0} (p : Key × X → Bool) (es : List (Key × X)) → IsStrictlySortedBy (slice_cmp nat_cmp) (keys_of es) → IsStrictlySortedBy (slice_cmp nat_cmp) (keys_of (filter p es))
unfolding IsStrictlySortedBy
in_order p [] h = tt
in_order p (e ∷ es) h = go (in_order p es h.1) (p e)
  where
    go : IsStrictlySortedBy (slice_cmp nat_cmp) (keys_of (filter p es)) → (b : Bool) → IsStrictlySortedBy (slice_cmp nat_cmp) (keys_of (cond b (e ∷ filter p es) (filter p es)))
    go rest true = (none_below p e.0 es h.0, rest)
    go rest false = rest

some_above : (o : Option ℕ) → is_some (option_filter (nat_lt 0) o) ≡ nat_lt 0 (unwrap_or o 0)
some_above None = refl
some_above (Some n) = go (nat_lt 0 n)
  where
    go : (b : Bool) → is_some (cond b (Some n) None) ≡ b
    go true = refl
    go false = refl

pub among : (es : List (Key × ℕ)) → IsStrictlySortedBy (slice_cmp nat_cmp) (keys_of es) → (d : Key)
    → list_any (eq_by_cmp (slice_cmp nat_cmp) d) (keys_of (filter (λ e. nat_lt 0 e.1) es)) ≡ nat_lt 0 (unwrap_or (lookup (λ k. is_eq (slice_cmp nat_cmp d k)) es) 0)
among es h d =
    any_there (eq_by_cmp (slice_cmp nat_cmp) d) (filter (λ e. nat_lt 0 e.1) es)
    ∙ ap is_some (lookup-filter-values (eq_by_cmp_equiv nat_list_cmp_total) (nat_lt 0) d es (IsDistinct-from_sorted (slice_cmp nat_cmp) (keys_of es) h))
    ∙ some_above (lookup (eq_by_cmp (slice_cmp nat_cmp) d) es)

pub none_in_order : (ds : List Key) → ds ≡ [] → IsStrictlySortedBy (slice_cmp nat_cmp) ds
unfolding IsStrictlySortedBy
none_in_order ds e = subst (λ (l : List Key). IsStrictlySortedBy (slice_cmp nat_cmp) l) (sym e) tt

-- ---- as a call answers

module _ {A E : Type 0} where
  pub ok_to : (r : Result A E) {P Q : Type 0} → (P → Q) → OnOk r P → OnOk r Q
  ok_to (Ok x) f h = f h
  ok_to (Err e) f h = tt
