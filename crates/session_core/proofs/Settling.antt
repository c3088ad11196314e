-- A list whose elements are replaced by others one by one, in place: what is done stands in front of what is to come.
--     stays, becomes, ends     a step: the element stays, becomes another, or is taken out
--     done                     nothing is to come
use Rattle.std.proofs.Common.{◌≡◌, ◌+◌, ◌<◌, ◌≤◌, ℕ, List, [], ◌∷◌, ◌++◌, length, take, drop, slice_set, get_or, sym, ap, ◌∙◌, arith, append_assoc, append-nil, add-one}
use Rattle.std.specs.List.{flat_map}
use Rattle.std.proofs.Math.Seq.{drop-cons, take-suc}
use Rattle.std.proofs.Math.ListN.{drop_of_length-le}
use Rattle.std.proofs.lemmas.List.{take_more_set, drop-set-lt, take_all, take_at, drop_at, length-take-le}

module _ {A : Type 0} (f : A → List A) where
  -- the element at a place, and those after it
  here : (xs : List A) (p : ℕ) (d : A) → p < length xs → flat_map f (drop p xs) ≡ f (get_or xs p d) ++ flat_map f (drop (p + 1) xs)
  here xs p d h = ap (flat_map f) (drop-cons xs p d h) ∙ ap (λ n. f (get_or xs p d) ++ flat_map f (drop n xs)) (sym (add-one p))

  pub becomes : (whole xs ys : List A) (p : ℕ) (d y : A) → p < length xs → whole ≡ take p xs ++ flat_map f (drop p xs) → f (get_or xs p d) ≡ y ∷ [] → ys ≡ slice_set xs p y
      → whole ≡ take (p + 1) ys ++ flat_map f (drop (p + 1) ys)
  becomes whole xs ys p d y h w e s =
      w ∙ ap (λ l. take p xs ++ l) (here xs p d h ∙ ap (λ l. l ++ flat_map f (drop (p + 1) xs)) e)
      ∙ sym (append_assoc (take p xs) (y ∷ []) (flat_map f (drop (p + 1) xs)))
      ∙ ap (λ l. l ++ flat_map f (drop (p + 1) xs)) (sym (take_more_set xs p y h) ∙ ap (take (p + 1)) (sym s))
      ∙ ap (λ l. take (p + 1) ys ++ flat_map f l) (sym (drop-set-lt (p + 1) xs p y (omega arith)) ∙ ap (drop (p + 1)) (sym s))

  pub stays : (whole xs : List A) (p : ℕ) (d : A) → p < length xs → whole ≡ take p xs ++ flat_map f (drop p xs) → f (get_or xs p d) ≡ get_or xs p d ∷ []
      → whole ≡ take (p + 1) xs ++ flat_map f (drop (p + 1) xs)
  stays whole xs p d h w e =
      w ∙ ap (λ l. take p xs ++ l) (here xs p d h ∙ ap (λ l. l ++ flat_map f (drop (p + 1) xs)) e)
      ∙ sym (append_assoc (take p xs) (get_or xs p d ∷ []) (flat_map f (drop (p + 1) xs)))
      ∙ ap (λ l. l ++ flat_map f (drop (p + 1) xs)) (sym (take-suc xs p d h) ∙ ap (λ n. take n xs) (sym (add-one p)))

  pub ends : (whole xs ys : List A) (p : ℕ) (d : A) → p < length xs → whole ≡ take p xs ++ flat_map f (drop p xs) → f (get_or xs p d) ≡ [] → ys ≡ take p xs ++ drop (p + 1) xs
      → whole ≡ take p ys ++ flat_map f (drop p ys)
  ends whole xs ys p d h w e s =
      w ∙ ap (λ l. take p xs ++ l) (here xs p d h ∙ ap (λ l. l ++ flat_map f (drop (p + 1) xs)) e)
      ∙ ap (λ l. l ++ flat_map f (drop (p + 1) xs)) (sym (take_at (take p xs) (drop (p + 1) xs) p (length-take-le p xs (omega (arith, h)))) ∙ ap (take p) (sym s))
      ∙ ap (λ l. take p ys ++ flat_map f l) (sym (drop_at (take p xs) (drop (p + 1) xs) p (length-take-le p xs (omega (arith, h)))) ∙ ap (drop p) (sym s))

  pub done : (whole xs : List A) (p : ℕ) → length xs ≤ p → whole ≡ take p xs ++ flat_map f (drop p xs) → xs ≡ whole
  done whole xs p h w = sym (w ∙ (λ i. take_all p xs h i ++ flat_map f (drop_of_length-le xs h i)) ∙ append-nil xs)
