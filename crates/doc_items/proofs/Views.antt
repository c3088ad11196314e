-- How the map that contracts see follows the strings that are stored.
--     get-strings, put-strings   a look-up and an insertion, whatever the values are
--     get-stored, set-stored     a look-up, and a change of one key, where they are strings
--     same-stored                copies of the strings give the same map
--     entries-stored             the entries are the strings, in their order
--     same-decided               two maps are equal exactly where their strings are, one by one
use Rattle.std.proofs.Common.{Less, length, arith, true≢false, ◌&&◌, ◌≡◌, ℕ, Bool, true, false, cond, List, [], ◌∷◌, refl, sym, ap, ◌∙◌, map, Option, None, Some, option_map, string_bytes, String, BTreeMap, is_eq}
use Rattle.std.specs.Ordering.{nat_cmp, eq_by_cmp}
use Rattle.std.specs.Cmp.Lexicographic.{slice_cmp, pointwise, bytes_decides}
use Rattle.std.specs.Cmp.{both_ways}
use Rattle.std.specs.List.Sorted.{IsStrictlySortedBy}
use Rattle.std.proofs.lemmas.Bool.{and_parts, and_from}
use Rattle.std.specs.String.{string_cmp, string_eq}
use Rattle.std.specs.Str.{bytes_eq}
use Rattle.std.specs.List.{AllZip}
use Rattle.std.specs.Map.{lookup, keys_of}
use Rattle.std.specs.BTreeMap as tree
use Rattle.std.specs.Global.{Global}
use Rattle.std.proofs.lemmas.Cmp.{nat_list_cmp_total, eq_by_cmp_equiv}
use Rattle.std.proofs.lemmas.Map.Text.{is_eq-slice_cmp, btree_map_updates_text}
use Rattle.std.specs.FinMap as finite
use Rattle.doc_items.specs.Maps.{pair_of, stored, strings, set_key, same_values}
use Rattle.doc_items.proofs.Maps.{alike, same_values-is, same_values-refl}

mapped_cond : {A B : Type 0} (f : A → B) (b : Bool) (x y : Option A) → option_map f (cond b x y) ≡ cond b (option_map f x) (option_map f y)
mapped_cond f true x y = refl
mapped_cond f false x y = refl

find-pairs : (q : List ℕ) (es : List (String Global × String Global)) → finite.find (slice_cmp nat_cmp) q (map pair_of es) ≡ option_map string_bytes (lookup (λ k. is_eq (slice_cmp nat_cmp q (string_bytes k))) es)
find-pairs q [] = refl
find-pairs q (e ∷ es) = ap (cond (eq_by_cmp (slice_cmp nat_cmp) q (string_bytes e.0)) (Some (string_bytes e.1))) (find-pairs q es) ∙ sym (mapped_cond string_bytes (is_eq (slice_cmp nat_cmp q (string_bytes e.0))) (Some e.1) (lookup (λ k. is_eq (slice_cmp nat_cmp q (string_bytes k))) es))

pub get-stored : (m : BTreeMap (String Global) (String Global)) (q : List ℕ) → finite.get (stored m.entries) q ≡ option_map string_bytes (tree.get_by_text m q)
get-stored m q = finite.get-from_entries nat_list_cmp_total (map pair_of m.entries) q ∙ find-pairs q m.entries

same_test : (bs q : List ℕ) → eq_by_cmp (slice_cmp nat_cmp) q bs ≡ bytes_eq bs q
same_test bs q = (eq_by_cmp_equiv nat_list_cmp_total).symm q bs ∙ is_eq-slice_cmp bs q

module _ {X : Type 0} where
  find-strings : (q : List ℕ) (es : List (String Global × X)) → finite.find (slice_cmp nat_cmp) q (map (λ e. (string_bytes e.0, e.1)) es) ≡ lookup (λ k. is_eq (slice_cmp nat_cmp q (string_bytes k))) es
  find-strings q [] = refl
  find-strings q (e ∷ es) = ap (cond (eq_by_cmp (slice_cmp nat_cmp) q (string_bytes e.0)) (Some e.1)) (find-strings q es)

  pub get-strings : (m : BTreeMap (String Global) X) (q : List ℕ) → finite.get (strings m.entries) q ≡ tree.get_by_text m q
  get-strings m q = finite.get-from_entries nat_list_cmp_total (map (λ e. (string_bytes e.0, e.1)) m.entries) q ∙ find-strings q m.entries

  pub put-strings : (bs : List ℕ) (m n : BTreeMap (String Global) X) (v : X) → tree.UpdatesBy string_cmp (λ k. slice_cmp nat_cmp bs (string_bytes k)) m n (Some v) → strings n.entries ≡ finite.insert (strings m.entries) bs v
  put-strings bs m n v h = alike _ _ (λ q.
      get-strings n q ∙ btree_map_updates_text bs m n (Some v) h q
      ∙ sym (finite.get-insert nat_list_cmp_total (strings m.entries) bs v q ∙ (λ i. cond (same_test bs q i) (Some v) (get-strings m q i))))

pub set-stored : (bs : List ℕ) (m n : BTreeMap (String Global) (String Global)) (w : Option (String Global)) → tree.UpdatesBy string_cmp (λ k. slice_cmp nat_cmp bs (string_bytes k)) m n w → stored n.entries ≡ set_key (stored m.entries) bs (option_map string_bytes w)
set-stored bs m n None h = alike _ _ (λ q.
    get-stored n q ∙ ap (option_map string_bytes) (btree_map_updates_text bs m n None h q) ∙ mapped_cond string_bytes (bytes_eq bs q) None (tree.get_by_text m q)
    ∙ sym (finite.get-remove nat_list_cmp_total (stored m.entries) bs q ∙ (λ i. cond (same_test bs q i) None (get-stored m q i))))
set-stored bs m n (Some v) h = alike _ _ (λ q.
    get-stored n q ∙ ap (option_map string_bytes) (btree_map_updates_text bs m n (Some v) h q) ∙ mapped_cond string_bytes (bytes_eq bs q) (Some v) (tree.get_by_text m q)
    ∙ sym (finite.get-insert nat_list_cmp_total (stored m.entries) bs (string_bytes v) q ∙ (λ i. cond (same_test bs q i) (Some (string_bytes v)) (get-stored m q i))))

copied : (es fs : List (String Global × String Global)) → AllZip (λ p q. (string_bytes q.0 ≡ string_bytes p.0) × (string_bytes q.1 ≡ string_bytes p.1)) es fs → map pair_of fs ≡ map pair_of es
copied [] [] h = refl
copied [] (f ∷ fs) h = absurd h
copied (e ∷ es) [] h = absurd h
copied (e ∷ es) (f ∷ fs) h = λ i. (h.0.0 i, h.0.1 i) ∷ copied es fs h.1 i

pub same-stored : (es fs : List (String Global × String Global)) → AllZip (λ p q. (string_bytes q.0 ≡ string_bytes p.0) × (string_bytes q.1 ≡ string_bytes p.1)) es fs → stored fs ≡ stored es
same-stored es fs h = ap finite.from_entries (copied es fs h)

-- ---- in order

in_front : (k f v w : List ℕ) (es : List (List ℕ × List ℕ)) → slice_cmp nat_cmp k f ≡ Less → finite.put (slice_cmp nat_cmp) k v ((f, w) ∷ es) ≡ (k, v) ∷ (f, w) ∷ es
in_front k f v w es h = rw h refl

none_left : {A : Type 0} (es : List A) → length es ≡ 0 → es ≡ []
none_left [] e = refl
none_left (x ∷ es) e = absurd (omega arith)

pub no_entries : finite.entries (finite.empty {K = List ℕ} {X = List ℕ} {R = slice_cmp nat_cmp}) ≡ []
no_entries = none_left _ (sym (finite.len-entries (finite.empty {K = List ℕ} {X = List ℕ} {R = slice_cmp nat_cmp})) ∙ finite.len-empty (slice_cmp nat_cmp) (List ℕ))

pub entries-stored : (es : List (String Global × String Global)) → IsStrictlySortedBy string_cmp (keys_of es) → finite.entries (stored es) ≡ map pair_of es
unfolding IsStrictlySortedBy
entries-stored [] h = no_entries
entries-stored (e ∷ []) h = finite.entries-insert nat_list_cmp_total finite.empty (string_bytes e.0) (string_bytes e.1) ∙ ap (finite.put (slice_cmp nat_cmp) (string_bytes e.0) (string_bytes e.1)) no_entries
entries-stored (e ∷ f ∷ es) h =
    finite.entries-insert nat_list_cmp_total (stored (f ∷ es)) (string_bytes e.0) (string_bytes e.1)
    ∙ ap (finite.put (slice_cmp nat_cmp) (string_bytes e.0) (string_bytes e.1)) (entries-stored (f ∷ es) h.1)
    ∙ in_front (string_bytes e.0) (string_bytes f.0) (string_bytes e.1) (string_bytes f.1) (map pair_of es) h.0.0

-- ---- equal maps

abbrev same_pair : String Global × String Global → String Global × String Global → Bool
same_pair p q = string_eq p.0 q.0 && string_eq p.1 q.1

pairs_same : (es fs : List (String Global × String Global)) → pointwise same_pair es fs ≡ true → map pair_of es ≡ map pair_of fs
pairs_same [] [] e = refl
pairs_same [] (f ∷ fs) e = absurd (true≢false (sym e))
pairs_same (x ∷ es) [] e = absurd (true≢false (sym e))
pairs_same (x ∷ es) (f ∷ fs) e =
    let p = and_parts (same_pair x f) (pointwise same_pair es fs) e in
    let q = and_parts (string_eq x.0 f.0) (string_eq x.1 f.1) p.0 in
    λ i. ((bytes_decides (string_bytes x.0) (string_bytes f.0)).0 q.0 i, (bytes_decides (string_bytes x.1) (string_bytes f.1)).0 q.1 i) ∷ pairs_same es fs p.1 i

same_pairs : (es fs : List (String Global × String Global)) → map pair_of es ≡ map pair_of fs → pointwise same_pair es fs ≡ true
same_pairs [] [] e = refl
same_pairs [] (f ∷ fs) e = absurd (cc)
same_pairs (x ∷ es) [] e = absurd (cc)
same_pairs (x ∷ es) (f ∷ fs) e =
    let first : pair_of x ≡ pair_of f = ap (λ l. elim l [ [] ↦ pair_of x | y ∷ ys ↦ y ]) e in
    let rest : map pair_of es ≡ map pair_of fs = ap (λ l. elim l [ [] ↦ [] | y ∷ ys ↦ ys ]) e in
    and_from _ _ (and_from _ _ ((bytes_decides (string_bytes x.0) (string_bytes f.0)).1 (ap (λ p. p.0) first)) ((bytes_decides (string_bytes x.1) (string_bytes f.1)).1 (ap (λ p. p.1) first))) (same_pairs es fs rest)

pub same-decided : (es fs : List (String Global × String Global)) → IsStrictlySortedBy string_cmp (keys_of es) → IsStrictlySortedBy string_cmp (keys_of fs)
    → pointwise same_pair es fs ≡ same_values (stored es) (stored fs)
same-decided es fs h k = both_ways _ _
    (λ e. ap (λ ps. same_values (finite.from_entries ps) (stored fs)) (pairs_same es fs e) ∙ same_values-refl (stored fs))
    (λ e. same_pairs es fs (sym (entries-stored es h) ∙ ap finite.entries (same_values-is (stored es) (stored fs) e) ∙ entries-stored fs k))
