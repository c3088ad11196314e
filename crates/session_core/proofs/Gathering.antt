-- What stands at each place, gathered one by one.
use Rattle.std.proofs.Common.{◌≡◌, ℕ, zero, suc, List, [], ◌∷◌, ◌++◌, length, map, take, refl, sym, ap, ◌∙◌, arith, slice_get, None, Some, length-append}
use Rattle.std.proofs.lemmas.List.{map-append}

module _ {K : Type 0} where
  some_same : (x y : K) → Some x ≡ Some y → x ≡ y
  some_same x y e = cc

  take_next : (ks : List K) (n : ℕ) (k : K) → Some k ≡ slice_get ks n → take (suc n) ks ≡ take n ks ++ k ∷ []
  take_next [] n k e = absurd cc
  take_next (x ∷ ks) zero k e = ap (λ z. z ∷ []) (sym (some_same k x e))
  take_next (x ∷ ks) (suc n) k e = ap (λ l. x ∷ l) (take_next ks n k e)

  take_whole : (ks : List K) (n : ℕ) → None ≡ slice_get ks n → take n ks ≡ ks
  take_whole [] zero e = refl
  take_whole [] (suc n) e = refl
  take_whole (x ∷ ks) zero e = absurd cc
  take_whole (x ∷ ks) (suc n) e = ap (λ l. x ∷ l) (take_whole ks n e)

module _ {B K : Type 0} (g : B → K) where
  one_more : (xs : List B) (x : B) → length (xs ++ x ∷ []) ≡ suc (length xs)
  one_more xs x = omega (arith, length-append xs (x ∷ []))

  pub next_gathered : (ks : List K) (xs all : List B) (n : ℕ) (x : B) → map g xs ≡ take (length xs) ks → n ≡ length xs → Some (g x) ≡ slice_get ks n → all ≡ xs ++ x ∷ [] → map g all ≡ take (length all) ks
  next_gathered ks xs all n x h l e s =
      ap (map g) s ∙ map-append g xs (x ∷ []) ∙ ap (λ l. l ++ g x ∷ []) h ∙ sym (take_next ks (length xs) (g x) (e ∙ ap (slice_get ks) l))
      ∙ ap (λ m. take m ks) (sym (one_more xs x)) ∙ ap (λ m. take (length m) ks) (sym s)

  pub all_gathered : (ks : List K) (xs : List B) (n : ℕ) → map g xs ≡ take (length xs) ks → n ≡ length xs → None ≡ slice_get ks n → map g xs ≡ ks
  all_gathered ks xs n h l e = h ∙ take_whole ks (length xs) (e ∙ ap (slice_get ks) l)
