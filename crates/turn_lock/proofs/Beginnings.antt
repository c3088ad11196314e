-- Beginnings of one list, and lists with one place changed.
use Rattle.turn_lock.specs.Passes.{IsOneMore, rank}
use Rattle.turn_lock.specs.Turns.{longer_of}
use Rattle.std.proofs.lemmas.Bool.Decides.{nat_tests}
use Rattle.turn_lock.specs.declared.view.Stage.{Stage}
use Rattle.turn_lock.specs.declared.view.Stage.TheVariants.{Out, Waits, Turn, Inside, Fresh, Gave, Told, Joined}
use Rattle.std.proofs.Common.{◌≡◌, ◌≢◌, ◌⊎◌, inl, inr, ℕ, zero, suc, Bool, true, false, ltb, if◌then◌else◌, ◌+◌, ◌≤◌, List, [], ◌∷◌, ◌++◌, length, set, refl, ap, sym, ◌∙◌, arith, append_assoc, length-append}
use mathlib.Core.List.{IsPrefix}
use mathlib.Core.Option.{some, some-ne-none}
use native.Mathlib.Decide.{ℕ_discrete}
use lib.ListN.{get_elem?}

module _ {A : Type 0} where
  pub prefix_self : (xs : List A) → IsPrefix xs xs
  prefix_self [] = ([], refl)
  prefix_self (x ∷ xs) = (let r = prefix_self xs in r.0, ap (λ ys. x ∷ ys) (prefix_self xs).1)

  pub prefix_trans : (xs ys zs : List A) → IsPrefix xs ys → IsPrefix ys zs → IsPrefix xs zs
  prefix_trans xs ys zs p q = (p.0 ++ q.0, sym (append_assoc xs p.0 q.0) ∙ (ap (λ w. w ++ q.0) p.1 ∙ q.1))

  pub prefix_more : (xs ys zs : List A) → IsPrefix xs ys → IsPrefix xs (ys ++ zs)
  prefix_more xs ys zs p = prefix_trans xs ys (ys ++ zs) p (zs, refl)

  pub no_length : (xs : List A) → length xs ≡ 0 → xs ≡ []
  no_length [] e = refl
  no_length (x ∷ xs) e = absurd (omega arith)

  pub set_there : (l : List A) (i : ℕ) (a b : A) → get_elem? l i ≡ some a → get_elem? (set l i b) i ≡ some b
  set_there [] i a b e = absurd (some-ne-none a (sym e))
  set_there (x ∷ xs) zero a b e = refl
  set_there (x ∷ xs) (suc i) a b e = set_there xs i a b e

abbrev pick : {P : Type 0} → Dec P → ℕ → ℕ → ℕ
pick (yes _) a b = a
pick (no _) a b = b

pub put : (ℕ → ℕ) → ℕ → ℕ → ℕ → ℕ
put f i c j = pick (ℕ_discrete j i) c (f j)

pub put_here : (f : ℕ → ℕ) (i c : ℕ) → put f i c i ≡ c
unfolding put
put_here f i c = go (ℕ_discrete i i)
  where
    go : (d : Dec (i ≡ i)) → pick d c (f i) ≡ c
    go (yes _) = refl
    go (no n) = absurd (n refl)

pub put_else : (f : ℕ → ℕ) (i c j : ℕ) → j ≢ i → put f i c j ≡ f j
unfolding put
put_else f i c j other = go (ℕ_discrete j i)
  where
    go : (d : Dec (j ≡ i)) → pick d c (f j) ≡ f j
    go (yes e) = absurd (other e)
    go (no _) = refl

module _ {A : Type 0} where
  pub same_of : (xs ys : List A) → (ys ≡ xs) ⊎ IsOneMore xs ys → length ys ≡ length xs → ys ≡ xs
  same_of xs ys (inl e) l = e
  same_of xs ys (inr m) l = let k = ap length m.1 in let a = length-append xs (m.0 ∷ []) in absurd (omega arith)

  pub more_of : (xs ys : List A) → (ys ≡ xs) ⊎ IsOneMore xs ys → length ys ≢ length xs → IsOneMore xs ys
  more_of xs ys (inl e) n = absurd (n (ap length e))
  more_of xs ys (inr m) n = m

  pub length_more : (xs ys : List A) (m : IsOneMore xs ys) → length ys ≡ length xs + 1
  length_more xs ys m = let k = ap length m.1 in let a = length-append xs (m.0 ∷ []) in omega arith

pub is_out : {E : Type 0} (st : Stage E) → rank st ≡ 0 → st ≡ Out
is_out Out e = refl
is_out (Waits t) e = absurd (omega arith)
is_out (Turn t) e = absurd (omega arith)
is_out (Inside t) e = absurd (omega arith)
is_out (Fresh t x) e = absurd (omega arith)
is_out (Gave t) e = absurd (omega arith)
is_out (Told xs) e = absurd (omega arith)
is_out Joined e = absurd (omega arith)

-- of two beginnings of one list the shorter begins the longer
pub prefix_shorter : {A : Type 0} (xs ys zs : List A) → IsPrefix xs zs → IsPrefix ys zs → length xs ≤ length ys → IsPrefix xs ys
prefix_shorter [] ys zs p q le = (ys, refl)
prefix_shorter (x ∷ xs) [] zs p q le = absurd (omega arith)
prefix_shorter (x ∷ xs) (y ∷ ys) [] p q le = absurd (cc (p.1))
prefix_shorter (x ∷ xs) (y ∷ ys) (z ∷ zs) p q le =
    let heads : x ≡ y = cc (p.1, q.1) in
    let rest = prefix_shorter xs ys zs (p.0, cc (p.1)) (q.0, cc (q.1)) (omega arith) in
    (rest.0, cc (heads, rest.1))

longer_by : {A : Type 0} (b : Bool) (xs ys zs : List A) → ltb (length xs) (length ys) ≡ b → IsPrefix xs zs → IsPrefix ys zs
    → IsPrefix (if b then ys else xs) zs × IsPrefix xs (if b then ys else xs) × IsPrefix ys (if b then ys else xs)
longer_by true xs ys zs is p q = (q, prefix_shorter xs ys zs p q (grind (arith, nat_tests)), prefix_self ys)
longer_by false xs ys zs is p q = (p, prefix_self xs, prefix_shorter ys xs zs q p (grind (arith, nat_tests)))

-- the longer of two beginnings of one list begins it, and begins with both
pub longer_begins : {A : Type 0} (xs ys zs : List A) → IsPrefix xs zs → IsPrefix ys zs → IsPrefix (longer_of xs ys) zs × IsPrefix xs (longer_of xs ys) × IsPrefix ys (longer_of xs ys)
longer_begins xs ys zs p q = longer_by (ltb (length xs) (length ys)) xs ys zs refl p q

-- two lists with one length that begin one list are one
pub same_front : {A : Type 0} (xs ys us vs : List A) → xs ++ us ≡ ys ++ vs → length xs ≡ length ys → xs ≡ ys
same_front [] [] us vs e l = refl
same_front [] (y ∷ ys) us vs e l = absurd (omega arith)
same_front (x ∷ xs) [] us vs e l = absurd (omega arith)
same_front (x ∷ xs) (y ∷ ys) us vs e l = let heads : x ≡ y = cc e in let rest = same_front xs ys us vs (cc e) (omega arith) in cc (heads, rest)
