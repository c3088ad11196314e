-- What is pending, gathered entry by entry.
--     next_taken, all_taken   one more, and all
use Rattle.std.proofs.Common.{◌≡◌, ℕ, zero, suc, List, [], ◌∷◌, ◌++◌, length, take, Option, None, Some, refl, sym, ap, ◌∙◌, arith, slice_get, length-append}

module _ {K : Type 0} where
  some_same : (x y : K) → Some x ≡ Some y → x ≡ y
  some_same x y e = cc

  take_next : (ks : List K) (n : ℕ) (k : K) → Some k ≡ slice_get ks n → take (suc n) ks ≡ take n ks ++ k ∷ []
  take_next [] n k e = absurd cc
  take_next (x ∷ ks) zero k e = ap (λ z. z ∷ []) (sym (some_same k x e))
  take_next (x ∷ ks) (suc n) k e = ap (λ l. x ∷ l) (take_next ks n k e)

  take_whole : (ks : List K) (n : ℕ) → None ≡ slice_get ks n → take n ks ≡ ks
  take_whole [] zero e = refl
  take_whole [] (suc n) e = refl
  take_whole (x ∷ ks) zero e = absurd cc
  take_whole (x ∷ ks) (suc n) e = ap (λ l. x ∷ l) (take_whole ks n e)

  one_more : (xs : List K) (x : K) → length (xs ++ x ∷ []) ≡ suc (length xs)
  one_more xs x = omega (arith, length-append xs (x ∷ []))

  pub next_taken : (ks xs all : List K) (n : ℕ) (k j : K) → xs ≡ take (length xs) ks → n ≡ length xs → Some k ≡ slice_get ks n → j ≡ k → all ≡ xs ++ j ∷ [] → all ≡ take (length all) ks
  next_taken ks xs all n k j h l e c s =
      let added : all ≡ xs ++ k ∷ [] = s ∙ ap (λ z. xs ++ z ∷ []) c in
      added ∙ ap (λ z. z ++ k ∷ []) h ∙ sym (take_next ks (length xs) k (e ∙ ap (slice_get ks) l)) ∙ ap (λ m. take m ks) (sym (one_more xs k)) ∙ ap (λ z. take (length z) ks) (sym added)

  pub all_taken : (ks xs : List K) (n : ℕ) → xs ≡ take (length xs) ks → n ≡ length xs → None ≡ slice_get ks n → xs ≡ ks
  all_taken ks xs n h l e = h ∙ take_whole ks (length xs) (e ∙ ap (slice_get ks) l)
