-- Counts of entries, added.
--     sum_set, sum_has                 another value of a name that is there; what it had is in the sum
--     sum_put, sum_append              a new entry; one after the others
--     sum_later, sum_rose              where one count didn't fall, or rose, neither did the cut-off sum, or it rose
use Rattle.std.proofs.Common.{◌≡◌, ℕ, zero, suc, ◌+◌, ◌≤◌, min, Bool, true, false, cond, List, [], ◌∷◌, ◌++◌, length, insert, Some, None, ap, arith}
use Rattle.std.specs.Map.{lookup, set_value}
use Rattle.doc_items.specs.Maps.{Key, same_text}

no_value : {X T : Type 0} {x : X} → None ≡ Some x → T
no_value e = absurd (cc)

same_Some : {X : Type 0} {x y : X} → Some x ≡ Some y → x ≡ y
same_Some e = cc

module _ {V : Type 0} (g : V → ℕ) where
  abbrev pub total : List (Key × V) → ℕ
  total [] = 0
  total (e ∷ es) = g e.1 + total es

  pub sum_set : (es : List (Key × V)) (n : Key) (v w : V) → lookup (same_text n) es ≡ Some v → total (set_value (same_text n) es w) + g v ≡ total es + g w
  sum_set [] n v w e = no_value e
  sum_set (x ∷ es) n v w e = go (λ h. sum_set es n v w h) (same_text n x.0) e
    where
      go : (lookup (same_text n) es ≡ Some v → total (set_value (same_text n) es w) + g v ≡ total es + g w) → (t : Bool) → cond t (Some x.1) (lookup (same_text n) es) ≡ Some v
          → total (cond t ((x.0, w) ∷ es) (x ∷ set_value (same_text n) es w)) + g v ≡ total (x ∷ es) + g w
      go rest true h = let same : g x.1 ≡ g v = ap g (same_Some h) in omega (arith, same)
      go rest false h = let more = rest h in omega (arith, more)

  pub sum_has : (es : List (Key × V)) (n : Key) (v : V) → lookup (same_text n) es ≡ Some v → g v ≤ total es
  sum_has [] n v e = no_value e
  sum_has (x ∷ es) n v e = go (λ h. sum_has es n v h) (same_text n x.0) e
    where
      go : (lookup (same_text n) es ≡ Some v → g v ≤ total es) → (t : Bool) → cond t (Some x.1) (lookup (same_text n) es) ≡ Some v → g v ≤ g x.1 + total es
      go rest true h = let same : g x.1 ≡ g v = ap g (same_Some h) in omega (arith, same)
      go rest false h = let more = rest h in omega (arith, more)

  pub sum_put : (es : List (Key × V)) (i : ℕ) (x : Key × V) → i ≤ length es → total (insert es i x) ≡ total es + g x.1
  sum_put es zero x le = omega arith
  sum_put [] (suc i) x le = absurd (omega (arith, le))
  sum_put (e ∷ es) (suc i) x le = let more = sum_put es i x (omega (arith, le)) in omega (arith, more)

  pub sum_append : (es : List (Key × V)) (x : Key × V) → total (es ++ x ∷ []) ≡ total es + g x.1
  sum_append [] x = omega arith
  sum_append (e ∷ es) x = let more = sum_append es x in omega (arith, more)

pub sum_later : (f h a b s t m : ℕ) → t + a ≡ s + b → a ≤ b → f ≤ h → min (f + s) m ≤ min (h + t) m
sum_later f h a b s t m e le on = omega (arith, e, le, on)

pub sum_rose : (f a b s t m : ℕ) → t + a ≡ s + b → a ≤ s → min (a + 1) m ≤ b → min (min (f + s) m + 1) m ≤ min (f + t) m
sum_rose f a b s t m e part le = omega (arith, e, part, le)

pub front_rose : (f h s m : ℕ) → min (f + 1) m ≤ h → min (min (f + s) m + 1) m ≤ min (h + s) m
front_rose f h s m le = omega (arith, le)

-- a disk is put back
pub put_counted : (f h a s m : ℕ) → h ≡ min (f + a) m → min (h + s) m ≡ min (f + (s + a)) m
put_counted f h a s m e = omega (arith, e)
