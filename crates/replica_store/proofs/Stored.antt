-- How copies by name follow those that are stored, and how copies in the world follow them.
--     get-entries, set-entries, entries-entries     a look-up, a change at one name, and all in order, of the map that contracts see
--     written            a write to a copy that is there
--     named_get, named_found, named_none, named_insert     each copy is of its name
--     all_named          so they all are, in order
--     worlds-insert      one more copy, or another one in its place
--     put_itself         the same one in its place
--     world_there, world_none     the copy of a name
--     entries-each       all copies in order, as they are in the world
use Rattle.std.proofs.Common.{Less, ◌≡◌, Bool, true, false, cond, List, [], ◌∷◌, map, length, refl, sym, ap, subst, ◌∙◌, Option, None, Some, option_map, unwrap_or, BTreeMap, is_eq, IsSome, IfSome, arith, true≢false}
use Rattle.std.specs.Ordering.{nat_cmp, eq_by_cmp}
use Rattle.std.specs.Cmp.Lexicographic.{slice_cmp}
use Rattle.std.specs.List.{All}
use Rattle.std.specs.List.Sorted.{IsStrictlySortedBy}
use Rattle.std.specs.Map.{lookup, keys_of}
use Rattle.std.specs.BTreeMap as tree
use Rattle.std.proofs.lemmas.Cmp.{nat_list_cmp_total, eq_by_cmp_equiv}
use Rattle.std.proofs.lemmas.List.Elements.{All-weaker}
use Rattle.std.specs.FinMap as finite
use Rattle.doc_items.specs.Maps.{Key, Map}
use Rattle.doc_items.proofs.Maps.{tie, tied, alike, get-each}
use Rattle.replica_store.specs.Copies.{CopyOf}
use Rattle.replica_store.specs.Worlds.{WorldOf, world_of, empty_world, Copies, AreNamed, worlds_of, world_at}

none_left : {A : Type 0} (es : List A) → length es ≡ 0 → es ≡ []
none_left [] e = refl
none_left (x ∷ es) e = absurd (omega arith)

module _ {X : Type 0} where
  find-lookup : (q : Key) (es : List (Key × X)) → finite.find (slice_cmp nat_cmp) q es ≡ lookup (λ k. is_eq (slice_cmp nat_cmp q k)) es
  find-lookup q [] = refl
  find-lookup q (e ∷ es) = ap (cond (eq_by_cmp (slice_cmp nat_cmp) q e.0) (Some e.1)) (find-lookup q es)

  pub get-entries : (m : BTreeMap Key X) (q : Key) → finite.get {R = slice_cmp nat_cmp} (finite.from_entries m.entries) q ≡ tree.get (slice_cmp nat_cmp) m q
  get-entries m q = finite.get-from_entries nat_list_cmp_total m.entries q ∙ find-lookup q m.entries

  pub get_put : (m : Map X) (n : Key) (t : X) (q : Key) → finite.get (finite.insert m n t) q ≡ cond (tie q n) (Some t) (finite.get m q)
  unfolding tie
  get_put m n t q = finite.get-insert nat_list_cmp_total m n t q

  pub set-entries : (k : Key) (m n : BTreeMap Key X) (v : X) → tree.Updates (slice_cmp nat_cmp) m n k (Some v) → finite.from_entries {R = slice_cmp nat_cmp} n.entries ≡ finite.insert (finite.from_entries m.entries) k v
  set-entries k m n v h = alike _ _ (λ q.
      get-entries n q ∙ h.0 q
      ∙ sym (finite.get-insert nat_list_cmp_total (finite.from_entries m.entries) k v q ∙ (λ i. cond ((eq_by_cmp_equiv nat_list_cmp_total).symm q k i) (Some v) (get-entries m q i))))

  in_front : (k f : Key) (v w : X) (es : List (Key × X)) → slice_cmp nat_cmp k f ≡ Less → finite.put (slice_cmp nat_cmp) k v ((f, w) ∷ es) ≡ (k, v) ∷ (f, w) ∷ es
  in_front k f v w es h = rw h refl

  no_entries : finite.entries (finite.empty {K = Key} {X = X} {R = slice_cmp nat_cmp}) ≡ []
  no_entries = none_left _ (sym (finite.len-entries (finite.empty {K = Key} {X = X} {R = slice_cmp nat_cmp})) ∙ finite.len-empty (slice_cmp nat_cmp) X)

  pub entries-entries : (es : List (Key × X)) → IsStrictlySortedBy (slice_cmp nat_cmp) (keys_of es) → finite.entries (finite.from_entries {R = slice_cmp nat_cmp} es) ≡ es
  unfolding IsStrictlySortedBy
  entries-entries [] h = no_entries
  entries-entries (e ∷ []) h = finite.entries-insert nat_list_cmp_total finite.empty e.0 e.1 ∙ ap (finite.put (slice_cmp nat_cmp) e.0 e.1) no_entries
  entries-entries (e ∷ f ∷ es) h =
      finite.entries-insert nat_list_cmp_total (finite.from_entries (f ∷ es)) e.0 e.1
      ∙ ap (finite.put (slice_cmp nat_cmp) e.0 e.1) (entries-entries (f ∷ es) h.1)
      ∙ in_front e.0 f.0 e.1 f.1 es h.0.0

  has-entry : (m : BTreeMap Key X) (f : Map X) (q : Key) → finite.from_entries {R = slice_cmp nat_cmp} m.entries ≡ f → IsSome (finite.get f q) → IsSome (tree.get (slice_cmp nat_cmp) m q)
  has-entry m f q e h = subst (λ (o : Option X). IsSome o) (ap (λ n. finite.get n q) (sym e) ∙ get-entries m q) h

  not_none : (o : Option X) → o ≡ None → IsSome o → ⊥
  not_none None e h = absurd (true≢false (sym h))
  not_none (Some x) e h = absurd (cc)

  pub absent : (m : BTreeMap Key X) (f : Map X) (q : Key) → finite.from_entries {R = slice_cmp nat_cmp} m.entries ≡ f → IsSome (finite.get f q) → tree.get (slice_cmp nat_cmp) m q ≡ None → ⊥
  absent m f q e h n = not_none _ n (has-entry m f q e h)

  pub lent : (m : BTreeMap Key X) (f : Map X) (k : Key) (x : X) → finite.from_entries {R = slice_cmp nat_cmp} m.entries ≡ f → Some x ≡ tree.get (slice_cmp nat_cmp) m k → finite.get f k ≡ Some x
  lent m f k x e g = sym (ap (λ n. finite.get n k) e) ∙ get-entries m k ∙ sym g

  some_there : (m : BTreeMap Key X) (k : Key) (x : X) → Some x ≡ tree.get (slice_cmp nat_cmp) m k → IsSome (tree.get (slice_cmp nat_cmp) m k)
  some_there m k x g = subst (λ (o : Option X). IsSome o) g refl

  pub written : (m n : BTreeMap Key X) (f : Map X) (k : Key) (x w : X) → finite.from_entries {R = slice_cmp nat_cmp} m.entries ≡ f → Some x ≡ tree.get (slice_cmp nat_cmp) m k
      → (IsSome (tree.get (slice_cmp nat_cmp) m k) → tree.Updates (slice_cmp nat_cmp) m n k (Some w)) → finite.from_entries {R = slice_cmp nat_cmp} n.entries ≡ finite.insert f k w
  written m n f k x w e g u = set-entries k m n w (u (some_there m k x g)) ∙ ap (λ z. finite.insert z k w) e

  pub put_itself : (m : Map X) (n : Key) (t : X) → finite.get m n ≡ Some t → finite.insert m n t ≡ m
  put_itself m n t e = alike _ _ (λ q. get_put m n t q ∙ go q (tie q n) refl)
    where
      go : (q : Key) (b : Bool) → tie q n ≡ b → cond b (Some t) (finite.get m q) ≡ finite.get m q
      go q true s = sym e ∙ ap (finite.get m) (sym (tied q n s))
      go q false s = refl

-- ---- names

pub named_none : AreNamed finite.empty
named_none n = subst (λ (o : Option CopyOf). IfSome o (λ c. c.history.name ≡ n)) (sym (finite.get-empty (slice_cmp nat_cmp) n)) tt

pub named_get : (m : Copies) (n : Key) (c : CopyOf) → AreNamed m → finite.get m n ≡ Some c → c.history.name ≡ n
named_get m n c h e = subst (λ (o : Option CopyOf). IfSome o (λ (b : CopyOf). b.history.name ≡ n)) e (h n)

pub named_found : {A : Type 0} (f : A → CopyOf) (o : Option A) (m : Copies) (n : Key) → AreNamed m → option_map f o ≡ finite.get m n → IfSome o (λ x. (f x).history.name ≡ n)
named_found f None m n h e = tt
named_found f (Some x) m n h e = named_get m n (f x) h (sym e)

pub named_insert : (m : Copies) (n : Key) (c : CopyOf) → AreNamed m → c.history.name ≡ n → AreNamed (finite.insert m n c)
named_insert m n c h e q = subst (λ (o : Option CopyOf). IfSome o (λ (b : CopyOf). b.history.name ≡ q)) (sym (get_put m n c q)) (go (tie q n) refl)
  where
    go : (b : Bool) → tie q n ≡ b → IfSome (cond b (Some c) (finite.get m q)) (λ (b : CopyOf). b.history.name ≡ q)
    go true s = e ∙ sym (tied q n s)
    go false s = h q

abbrev pub IsNamed : Key × CopyOf → Type 0
IsNamed e = e.1.history.name ≡ e.0

pub all_named : (t : BTreeMap Key CopyOf) (m : Copies) → finite.from_entries t.entries ≡ m → AreNamed (finite.from_entries t.entries) → All (λ e. tree.get (slice_cmp nat_cmp) t e.0 ≡ Some e.1) t.entries → All IsNamed t.entries
all_named t m is named found = All-weaker (λ e. tree.get (slice_cmp nat_cmp) t e.0 ≡ Some e.1) IsNamed (λ e at. named_get (finite.from_entries t.entries) e.0 e.1 named (get-entries t e.0 ∙ at)) t.entries found

-- ---- in the world

pub worlds-insert : (m : Copies) (n : Key) (c : CopyOf) → worlds_of (finite.insert m n c) ≡ finite.insert (worlds_of m) n (world_of c)
worlds-insert m n c = alike _ _ (λ q. get-each world_of (finite.insert m n c) q ∙ ap (option_map world_of) (get_put m n c q) ∙ go q (tie q n) ∙ sym (get_put (worlds_of m) n (world_of c) q))
  where
    go : (q : Key) (b : Bool) → option_map world_of (cond b (Some c) (finite.get m q)) ≡ cond b (Some (world_of c)) (finite.get (worlds_of m) q)
    go q true = refl
    go q false = sym (get-each world_of m q)

pub worlds-empty : worlds_of finite.empty ≡ finite.empty
worlds-empty = alike _ _ (λ q. get-each world_of finite.empty q ∙ ap (option_map world_of) (finite.get-empty (slice_cmp nat_cmp) q) ∙ sym (finite.get-empty (slice_cmp nat_cmp) q))

pub world_got : (m : Copies) (n : Key) (c : CopyOf) → finite.get m n ≡ Some c → finite.get (worlds_of m) n ≡ Some (world_of c)
world_got m n c e = get-each world_of m n ∙ ap (option_map world_of) e

pub world_there : (m : Copies) (n : Key) (c : CopyOf) → finite.get m n ≡ Some c → world_at (worlds_of m) n ≡ world_of c
world_there m n c e = ap (λ o. unwrap_or o empty_world) (world_got m n c e)

pub world_missing : (m : Copies) (n : Key) → finite.get m n ≡ None → finite.get (worlds_of m) n ≡ None
world_missing m n e = get-each world_of m n ∙ ap (option_map world_of) e

pub world_none : (m : Copies) (n : Key) → finite.get m n ≡ None → world_at (worlds_of m) n ≡ empty_world
world_none m n e = ap (λ o. unwrap_or o empty_world) (world_missing m n e)

-- ---- in order

abbrev pub world_entry : Key × CopyOf → Key × WorldOf
world_entry e = (e.0, world_of e.1)

abbrev pub world_entries : List (Key × CopyOf) → List (Key × WorldOf)
world_entries es = map world_entry es

keys_same : (es : List (Key × CopyOf)) → keys_of (world_entries es) ≡ keys_of es
keys_same [] = refl
keys_same (e ∷ es) = ap (λ ks. e.0 ∷ ks) (keys_same es)

find-mapped : (q : Key) (es : List (Key × CopyOf)) → finite.find (slice_cmp nat_cmp) q (world_entries es) ≡ option_map world_of (finite.find (slice_cmp nat_cmp) q es)
find-mapped q [] = refl
find-mapped q (e ∷ es) = go (eq_by_cmp (slice_cmp nat_cmp) q e.0) (find-mapped q es)
  where
    go : (b : Bool) → finite.find (slice_cmp nat_cmp) q (world_entries es) ≡ option_map world_of (finite.find (slice_cmp nat_cmp) q es)
        → cond b (Some (world_of e.1)) (finite.find (slice_cmp nat_cmp) q (world_entries es)) ≡ option_map world_of (cond b (Some e.1) (finite.find (slice_cmp nat_cmp) q es))
    go true h = refl
    go false h = h

pub entries-each : (es : List (Key × CopyOf)) (m : Copies) → finite.from_entries es ≡ m → IsStrictlySortedBy (slice_cmp nat_cmp) (keys_of es) → finite.entries (worlds_of m) ≡ world_entries es
entries-each es m is ordered = ap finite.entries same ∙ entries-entries (world_entries es) (subst (λ ks. IsStrictlySortedBy (slice_cmp nat_cmp) ks) (sym (keys_same es)) ordered)
  where
    same : worlds_of m ≡ finite.from_entries (world_entries es)
    same = alike _ _ (λ q.
        get-each world_of m q ∙ ap (option_map world_of) (ap (λ x. finite.get x q) (sym is) ∙ finite.get-from_entries nat_list_cmp_total es q)
        ∙ sym (find-mapped q es) ∙ sym (finite.get-from_entries nat_list_cmp_total (world_entries es) q))
