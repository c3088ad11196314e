-- Lists of which one place changes, or that get one more.
--     get_before, get_last      what stands in a list with one more
--     get_set_same, get_set_other     what stands in one with another value at a place
--     at_there                  what an index gave stands there
--     is_there                  a place with a value is within the list
--     each_set, each_push       what is so of each place
use Rattle.std.proofs.Common.{◌≡◌, ◌≢◌, ℕ, zero, suc, ◌<◌, ◌+◌, List, [], ◌∷◌, ◌++◌, length, Option, Some, slice_get, get_or, set, refl, sym, ap, ◌∙◌, subst, arith}
use mathlib.Core.Logic.{dite}
use native.Mathlib.Decide.{ℕ_discrete}

module _ {A : Type 0} where
  pub get_before : (xs : List A) (x : A) (k : ℕ) → k < length xs → slice_get (xs ++ x ∷ []) k ≡ slice_get xs k
  get_before [] x k l = absurd (omega arith)
  get_before (y ∷ ys) x zero l = refl
  get_before (y ∷ ys) x (suc k) l = get_before ys x k (omega arith)

  pub get_last : (xs : List A) (x : A) → slice_get (xs ++ x ∷ []) (length xs) ≡ Some x
  get_last [] x = refl
  get_last (y ∷ ys) x = get_last ys x

  pub get_set_same : (xs : List A) (i : ℕ) (x y : A) → slice_get xs i ≡ Some y → slice_get (set xs i x) i ≡ Some x
  get_set_same [] i x y e = absurd cc
  get_set_same (z ∷ zs) zero x y e = refl
  get_set_same (z ∷ zs) (suc i) x y e = get_set_same zs i x y e

  pub get_set_other : (xs : List A) (i j : ℕ) (x : A) → j ≢ i → slice_get (set xs i x) j ≡ slice_get xs j
  get_set_other [] i j x n = refl
  get_set_other (z ∷ zs) zero zero x n = absurd (n refl)
  get_set_other (z ∷ zs) zero (suc j) x n = refl
  get_set_other (z ∷ zs) (suc i) zero x n = refl
  get_set_other (z ∷ zs) (suc i) (suc j) x n = get_set_other zs i j x (λ e. n (ap suc e))

  pub at_there : (xs : List A) (i : ℕ) (x : A) → i < length xs → x ≡ get_or xs i x → slice_get xs i ≡ Some x
  at_there [] i x l e = absurd (omega arith)
  at_there (y ∷ ys) zero x l e = ap Some (sym e)
  at_there (y ∷ ys) (suc i) x l e = at_there ys i x (omega arith) e

  pub is_within : (xs : List A) (i : ℕ) (x : A) → slice_get xs i ≡ Some x → i < length xs
  is_within [] i x e = absurd cc
  is_within (y ∷ ys) zero x e = omega arith
  is_within (y ∷ ys) (suc i) x e = let r = is_within ys i x e in omega arith

  pub each_set : (P : ℕ → Option A → Type 0) (n : ℕ) (xs : List A) (i : ℕ) (x y : A) → slice_get xs i ≡ Some y → ((k : ℕ) → k < n → P k (slice_get xs k)) → P i (Some x) → (k : ℕ) → k < n → P k (slice_get (set xs i x) k)
  each_set P n xs i x y at each one k l = dite (ℕ_discrete k i)
      (λ e. subst (λ (z : ℕ). P z (slice_get (set xs i x) z)) (sym e) (subst (P i) (sym (get_set_same xs i x y at)) one))
      (λ ne. subst (P k) (sym (get_set_other xs i k x ne)) (each k l))

  pub each_push : (P : ℕ → Option A → Type 0) (n : ℕ) (xs : List A) (x : A) → length xs ≡ n → ((k : ℕ) → k < n → P k (slice_get xs k)) → P n (Some x) → (k : ℕ) → k < n + 1 → P k (slice_get (xs ++ x ∷ []) k)
  each_push P n xs x size each one k l = dite (ℕ_discrete k n)
      (λ e. subst (P k) (sym (ap (slice_get (xs ++ x ∷ [])) (e ∙ sym size) ∙ get_last xs x)) (subst (λ (z : ℕ). P z (Some x)) (sym e) one))
      (λ ne. subst (P k) (sym (get_before xs x k (omega arith))) (each k (omega arith)))
