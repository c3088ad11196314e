-- How the map that contracts see follows the entries that are stored.
--     get-entries      a look-up
--     set-entries      a change at one key
--     entries-entries  the entries, in their order
--     keys-entries     the keys, in their order
--     insert_next      entries are copied one by one, in their order
--     at_first, at_next, at_end     a walk to a place
--     at_whole         a walk to the end
use Rattle.std.proofs.Common.{Less, Greater, ◌≡◌, ℕ, zero, suc, cond, List, [], ◌∷◌, length, refl, sym, ap, ◌∙◌, Option, None, Some, BTreeMap, is_eq, slice_get, IsSome, arith, subst, append_assoc, append-nil, ◌++◌, ◌-◌, true≢false}
use Rattle.std.specs.Ordering.{nat_cmp, eq_by_cmp, ordering_reverse, match_ordering}
use Rattle.std.specs.List.{AllByRecursion}
use Rattle.std.specs.Cmp.Lexicographic.{slice_cmp}
use Rattle.std.specs.List.Sorted.{IsStrictlySortedBy}
use Rattle.std.specs.Map.{lookup, keys_of}
use Rattle.std.specs.BTreeMap as tree
use Rattle.std.proofs.lemmas.Cmp.{nat_list_cmp_total, eq_by_cmp_equiv}
use Rattle.std.specs.FinMap as finite
use Rattle.doc_items.specs.Maps.{Key, Map, set_key}
use Rattle.doc_items.proofs.Maps.{alike}

none_left : {A : Type 0} (es : List A) → length es ≡ 0 → es ≡ []
none_left [] e = refl
none_left (x ∷ es) e = absurd (omega arith)

behind : (k j : Key) → slice_cmp nat_cmp j k ≡ Less → slice_cmp nat_cmp k j ≡ Greater
behind k j h = nat_list_cmp_total.antisymm k j ∙ ap ordering_reverse h

module _ {X : Type 0} where
  find-lookup : (q : Key) (es : List (Key × X)) → finite.find (slice_cmp nat_cmp) q es ≡ lookup (λ k. is_eq (slice_cmp nat_cmp q k)) es
  find-lookup q [] = refl
  find-lookup q (e ∷ es) = ap (cond (eq_by_cmp (slice_cmp nat_cmp) q e.0) (Some e.1)) (find-lookup q es)

  pub get-entries : (m : BTreeMap Key X) (q : Key) → finite.get {R = slice_cmp nat_cmp} (finite.from_entries m.entries) q ≡ tree.get (slice_cmp nat_cmp) m q
  get-entries m q = finite.get-from_entries nat_list_cmp_total m.entries q ∙ find-lookup q m.entries

  pub set-entries : (k : Key) (m n : BTreeMap Key X) (w : Option X) → tree.Updates (slice_cmp nat_cmp) m n k w → finite.from_entries {R = slice_cmp nat_cmp} n.entries ≡ set_key (finite.from_entries m.entries) k w
  set-entries k m n None h = alike _ _ (λ q.
      get-entries n q ∙ h.0 q
      ∙ sym (finite.get-remove nat_list_cmp_total (finite.from_entries m.entries) k q ∙ (λ i. cond ((eq_by_cmp_equiv nat_list_cmp_total).symm q k i) None (get-entries m q i))))
  set-entries k m n (Some v) h = alike _ _ (λ q.
      get-entries n q ∙ h.0 q
      ∙ sym (finite.get-insert nat_list_cmp_total (finite.from_entries m.entries) k v q ∙ (λ i. cond ((eq_by_cmp_equiv nat_list_cmp_total).symm q k i) (Some v) (get-entries m q i))))

  -- ---- in order

  in_front : (k f : Key) (v w : X) (es : List (Key × X)) → slice_cmp nat_cmp k f ≡ Less → finite.put (slice_cmp nat_cmp) k v ((f, w) ∷ es) ≡ (k, v) ∷ (f, w) ∷ es
  in_front k f v w es h = rw h refl

  no_entries : finite.entries (finite.empty {K = Key} {X = X} {R = slice_cmp nat_cmp}) ≡ []
  no_entries = none_left _ (sym (finite.len-entries (finite.empty {K = Key} {X = X} {R = slice_cmp nat_cmp})) ∙ finite.len-empty (slice_cmp nat_cmp) X)

  pub entries-entries : (es : List (Key × X)) → IsStrictlySortedBy (slice_cmp nat_cmp) (keys_of es) → finite.entries (finite.from_entries {R = slice_cmp nat_cmp} es) ≡ es
  unfolding IsStrictlySortedBy
  entries-entries [] h = no_entries
  entries-entries (e ∷ []) h = finite.entries-insert nat_list_cmp_total finite.empty e.0 e.1 ∙ ap (finite.put (slice_cmp nat_cmp) e.0 e.1) no_entries
  entries-entries (e ∷ f ∷ es) h =
      finite.entries-insert nat_list_cmp_total (finite.from_entries (f ∷ es)) e.0 e.1
      ∙ ap (finite.put (slice_cmp nat_cmp) e.0 e.1) (entries-entries (f ∷ es) h.1)
      ∙ in_front e.0 f.0 e.1 f.1 es h.0.0

  at_entry : (P : Key → Type 0) (done rest : List (Key × X)) (e : Key × X) → AllByRecursion P (keys_of (done ++ e ∷ rest)) → P e.0
  at_entry P [] rest e h = h.0
  at_entry P (x ∷ done) rest e h = at_entry P done rest e h.1

  last_of : (done rest : List (Key × X)) (e : Key × X) → IsStrictlySortedBy (slice_cmp nat_cmp) (keys_of (done ++ e ∷ rest)) → tree.insert_entry (slice_cmp nat_cmp) done e.0 e.1 ≡ done ++ e ∷ []
  unfolding IsStrictlySortedBy
  last_of [] rest e s = refl
  last_of (x ∷ done) rest e s =
      ap (λ o. match_ordering o ((e.0, e.1) ∷ x ∷ done) ((x.0, e.1) ∷ done) (x ∷ tree.insert_entry (slice_cmp nat_cmp) done e.0 e.1)) (behind e.0 x.0 (at_entry (λ k. slice_cmp nat_cmp x.0 k ≡ Less) done rest e s.0))
      ∙ ap (λ l. x ∷ l) (last_of done rest e s.1)

  -- an entry that comes after those copied is copied
  pub insert_next : (all done next left rest : List (Key × X)) (k : Key) (v : X) → IsStrictlySortedBy (slice_cmp nat_cmp) (keys_of all) → done ++ left ≡ all → left ≡ (k, v) ∷ rest
      → next ≡ tree.insert_entry (slice_cmp nat_cmp) done k v → next ++ rest ≡ all
  insert_next all done next left rest k v s d f e =
      let whole = ap (λ l. done ++ l) (sym f) ∙ d in
      ap (λ l. l ++ rest) (e ∙ last_of done rest (k, v) (subst (λ (es : List (Key × X)). IsStrictlySortedBy (slice_cmp nat_cmp) (keys_of es)) (sym whole) s))
      ∙ append_assoc done ((k, v) ∷ []) rest ∙ whole

  pub has-entry : (m : BTreeMap Key X) (f : Map X) (q : Key) → finite.from_entries {R = slice_cmp nat_cmp} m.entries ≡ f → IsSome (finite.get f q) → IsSome (tree.get (slice_cmp nat_cmp) m q)
  has-entry m f q e h = subst (λ (o : Option X). IsSome o) (ap (λ n. finite.get n q) (sym e) ∙ get-entries m q) h

  not_none : (o : Option X) → o ≡ None → IsSome o → ⊥
  not_none None e h = absurd (true≢false (sym h))
  not_none (Some x) e h = absurd (cc)

  pub absent : (m : BTreeMap Key X) (f : Map X) (q : Key) → finite.from_entries {R = slice_cmp nat_cmp} m.entries ≡ f → IsSome (finite.get f q) → tree.get (slice_cmp nat_cmp) m q ≡ None → ⊥
  absent m f q e h n = not_none _ n (has-entry m f q e h)

  pub keys-entries : (m : BTreeMap Key X) (f : Map X) → IsStrictlySortedBy (slice_cmp nat_cmp) (keys_of m.entries) → finite.from_entries {R = slice_cmp nat_cmp} m.entries ≡ f → keys_of m.entries ≡ finite.keys f
  keys-entries m f s e = sym (ap keys_of (entries-entries m.entries s)) ∙ ap finite.keys e

-- ---- a write to an entry that is there

module _ {X : Type 0} where
  pub written : (m n : BTreeMap Key X) (f : Map X) (k : Key) (w : X) → finite.from_entries {R = slice_cmp nat_cmp} m.entries ≡ f → IsSome (finite.get f k)
      → (IsSome (tree.get (slice_cmp nat_cmp) m k) → tree.Updates (slice_cmp nat_cmp) m n k (Some w)) → finite.from_entries {R = slice_cmp nat_cmp} n.entries ≡ set_key f k (Some w)
  written m n f k w e h u = set-entries k m n (Some w) (u (has-entry m f k e h)) ∙ ap (λ x. finite.insert x k w) e

  pub lent : (m : BTreeMap Key X) (f : Map X) (k : Key) (x : X) → finite.from_entries {R = slice_cmp nat_cmp} m.entries ≡ f → Some x ≡ tree.get (slice_cmp nat_cmp) m k → finite.get f k ≡ Some x
  lent m f k x e g = sym (ap (λ n. finite.get n k) e) ∙ get-entries m k ∙ sym g

-- ---- a walk to a place

pub at_first : (left rest : List Key) (k : Key) (n : ℕ) (g : Option Key) → slice_get left n ≡ g → left ≡ k ∷ rest → n ≡ 0 → Some k ≡ g
at_first left rest k n g h e z = sym (λ i. slice_get (e i) (z i)) ∙ h

pub at_next : (left rest : List Key) (k : Key) (n : ℕ) (g : Option Key) → slice_get left n ≡ g → left ≡ k ∷ rest → (n ≡ 0 → ⊥) → slice_get rest (n - 1) ≡ g
at_next left rest k zero g h e z = absurd (z refl)
at_next left rest k (suc n) g h e z = ap (slice_get rest) (omega arith) ∙ sym (ap (λ l. slice_get l (suc n)) e) ∙ h

pub at_end : (left : List Key) (n : ℕ) (g : Option Key) → slice_get left n ≡ g → left ≡ [] → None ≡ g
at_end left n g h e = sym (ap (λ l. slice_get l n) e) ∙ h

pub at_whole : (done left all : List Key) → done ++ left ≡ all → left ≡ [] → done ≡ all
at_whole done left all h e = sym (append-nil done) ∙ ap (λ l. done ++ l) (sym e) ∙ h
