-- How the map that contracts see follows the entries that are stored.
--     get-entries      a look-up
--     set-entries      a change at one key
--     entries-entries  the entries, in their order
--     absent, written, lent     a write to an entry that is there
use Rattle.std.proofs.Common.{Less, ◌≡◌, cond, List, [], ◌∷◌, length, refl, sym, ap, ◌∙◌, Option, None, Some, BTreeMap, is_eq, IsSome, arith, subst, true≢false}
use Rattle.std.specs.Ordering.{nat_cmp, eq_by_cmp}
use Rattle.std.specs.Cmp.Lexicographic.{slice_cmp}
use Rattle.std.specs.List.Sorted.{IsStrictlySortedBy}
use Rattle.std.specs.Map.{lookup, keys_of}
use Rattle.std.specs.BTreeMap as tree
use Rattle.std.proofs.lemmas.Cmp.{nat_list_cmp_total, eq_by_cmp_equiv}
use Rattle.std.specs.FinMap as finite
use Rattle.doc_items.specs.Maps.{Key, Map, set_key}
use Rattle.doc_items.proofs.Maps.{alike}

none_left : {A : Type 0} (es : List A) → length es ≡ 0 → es ≡ []
none_left [] e = refl
none_left (x ∷ es) e = absurd (omega arith)

module _ {X : Type 0} where
  find-lookup : (q : Key) (es : List (Key × X)) → finite.find (slice_cmp nat_cmp) q es ≡ lookup (λ k. is_eq (slice_cmp nat_cmp q k)) es
  find-lookup q [] = refl
  find-lookup q (e ∷ es) = ap (cond (eq_by_cmp (slice_cmp nat_cmp) q e.0) (Some e.1)) (find-lookup q es)

  pub get-entries : (m : BTreeMap Key X) (q : Key) → finite.get {R = slice_cmp nat_cmp} (finite.from_entries m.entries) q ≡ tree.get (slice_cmp nat_cmp) m q
  get-entries m q = finite.get-from_entries nat_list_cmp_total m.entries q ∙ find-lookup q m.entries

  pub set-entries : (k : Key) (m n : BTreeMap Key X) (w : Option X) → tree.Updates (slice_cmp nat_cmp) m n k w → finite.from_entries {R = slice_cmp nat_cmp} n.entries ≡ set_key (finite.from_entries m.entries) k w
  set-entries k m n None h = alike _ _ (λ q.
      get-entries n q ∙ h.0 q
      ∙ sym (finite.get-remove nat_list_cmp_total (finite.from_entries m.entries) k q ∙ (λ i. cond ((eq_by_cmp_equiv nat_list_cmp_total).symm q k i) None (get-entries m q i))))
  set-entries k m n (Some v) h = alike _ _ (λ q.
      get-entries n q ∙ h.0 q
      ∙ sym (finite.get-insert nat_list_cmp_total (finite.from_entries m.entries) k v q ∙ (λ i. cond ((eq_by_cmp_equiv nat_list_cmp_total).symm q k i) (Some v) (get-entries m q i))))

  in_front : (k f : Key) (v w : X) (es : List (Key × X)) → slice_cmp nat_cmp k f ≡ Less → finite.put (slice_cmp nat_cmp) k v ((f, w) ∷ es) ≡ (k, v) ∷ (f, w) ∷ es
  in_front k f v w es h = rw h refl

  no_entries : finite.entries (finite.empty {K = Key} {X = X} {R = slice_cmp nat_cmp}) ≡ []
  no_entries = none_left _ (sym (finite.len-entries (finite.empty {K = Key} {X = X} {R = slice_cmp nat_cmp})) ∙ finite.len-empty (slice_cmp nat_cmp) X)

  pub entries-entries : (es : List (Key × X)) → IsStrictlySortedBy (slice_cmp nat_cmp) (keys_of es) → finite.entries (finite.from_entries {R = slice_cmp nat_cmp} es) ≡ es
  unfolding IsStrictlySortedBy
  entries-entries [] h = no_entries
  entries-entries (e ∷ []) h = finite.entries-insert nat_list_cmp_total finite.empty e.0 e.1 ∙ ap (finite.put (slice_cmp nat_cmp) e.0 e.1) no_entries
  entries-entries (e ∷ f ∷ es) h =
      finite.entries-insert nat_list_cmp_total (finite.from_entries (f ∷ es)) e.0 e.1
      ∙ ap (finite.put (slice_cmp nat_cmp) e.0 e.1) (entries-entries (f ∷ es) h.1)
      ∙ in_front e.0 f.0 e.1 f.1 es h.0.0

  has-entry : (m : BTreeMap Key X) (f : Map X) (q : Key) → finite.from_entries {R = slice_cmp nat_cmp} m.entries ≡ f → IsSome (finite.get f q) → IsSome (tree.get (slice_cmp nat_cmp) m q)
  has-entry m f q e h = subst (λ (o : Option X). IsSome o) (ap (λ n. finite.get n q) (sym e) ∙ get-entries m q) h

  not_none : (o : Option X) → o ≡ None → IsSome o → ⊥
  not_none None e h = absurd (true≢false (sym h))
  not_none (Some x) e h = absurd (cc)

  pub absent : (m : BTreeMap Key X) (f : Map X) (q : Key) → finite.from_entries {R = slice_cmp nat_cmp} m.entries ≡ f → IsSome (finite.get f q) → tree.get (slice_cmp nat_cmp) m q ≡ None → ⊥
  absent m f q e h n = not_none _ n (has-entry m f q e h)

  pub written : (m n : BTreeMap Key X) (f : Map X) (k : Key) (w : X) → finite.from_entries {R = slice_cmp nat_cmp} m.entries ≡ f → IsSome (finite.get f k)
      → (IsSome (tree.get (slice_cmp nat_cmp) m k) → tree.Updates (slice_cmp nat_cmp) m n k (Some w)) → finite.from_entries {R = slice_cmp nat_cmp} n.entries ≡ set_key f k (Some w)
  written m n f k w e h u = set-entries k m n (Some w) (u (has-entry m f k e h)) ∙ ap (λ x. finite.insert x k w) e

  pub lent : (m : BTreeMap Key X) (f : Map X) (k : Key) (x : X) → finite.from_entries {R = slice_cmp nat_cmp} m.entries ≡ f → Some x ≡ tree.get (slice_cmp nat_cmp) m k → finite.get f k ≡ Some x
  lent m f k x e g = sym (ap (λ n. finite.get n k) e) ∙ get-entries m k ∙ sym g
