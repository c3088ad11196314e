-- Lists that begin others.
--     prefix_self, prefix_more     a list begins itself; what begins a list that begins another begins that
--     prefix_length                it isn't longer
--     prefix_both                  of two that begin one list, the one that isn't longer begins the other
--     prefix_whole                 one that is as long is the whole
use Rattle.std.proofs.Common.{◌≡◌, ◌≤◌, List, [], ◌∷◌, ◌++◌, length, refl, sym, ap, subst, ◌∙◌, arith, append-nil, append_assoc, length-append}
use mathlib.Core.List.{IsPrefix}

module _ {X : Type 0} where
  pub prefix_self : (xs : List X) → IsPrefix xs xs
  prefix_self xs = ([], append-nil xs)

  pub prefix_more : (xs ys zs : List X) → IsPrefix xs ys → IsPrefix ys zs → IsPrefix xs zs
  prefix_more xs ys zs p q = (p.0 ++ q.0, sym (append_assoc xs p.0 q.0) ∙ ap (λ l. l ++ q.0) p.1 ∙ q.1)

  pub prefix_length : (xs ys : List X) → IsPrefix xs ys → length xs ≤ length ys
  prefix_length xs ys p = subst (λ l. length xs ≤ length l) p.1 (omega (arith, length-append xs p.0))

  head_same : (x y : X) (xs ys : List X) → x ∷ xs ≡ y ∷ ys → x ≡ y
  head_same x y xs ys e = cc

  tail_same : (x y : X) (xs ys : List X) → x ∷ xs ≡ y ∷ ys → xs ≡ ys
  tail_same x y xs ys e = cc

  -- of two that begin one list, the one that isn't longer begins the other
  pub prefix_both : (xs ys zs : List X) → IsPrefix xs zs → IsPrefix ys zs → length xs ≤ length ys → IsPrefix xs ys
  prefix_both [] ys zs p q l = (ys, refl)
  prefix_both (x ∷ xs) [] zs p q l = absurd (omega (arith, l))
  prefix_both (x ∷ xs) (y ∷ ys) [] p q l = absurd (omega (arith, ap length p.1))
  prefix_both (x ∷ xs) (y ∷ ys) (z ∷ zs) p q l =
      let one : x ≡ y = head_same x z (xs ++ p.0) zs p.1 ∙ sym (head_same y z (ys ++ q.0) zs q.1) in
      let rest : IsPrefix xs ys = prefix_both xs ys zs (p.0, tail_same x z (xs ++ p.0) zs p.1) (q.0, tail_same y z (ys ++ q.0) zs q.1) (omega (arith, l)) in
      (rest.0, (λ i. one i ∷ rest.1 i))

  pub prefix_whole : (xs ys : List X) → IsPrefix xs ys → length xs ≡ length ys → xs ≡ ys
  prefix_whole xs ys p l = sym (append-nil xs) ∙ ap (λ r. xs ++ r) (sym (none p.0 (omega (arith, length-append xs p.0, ap length p.1, l)))) ∙ p.1
    where
      none : (r : List X) → length r ≡ 0 → r ≡ []
      none [] e = refl
      none (x ∷ r) e = absurd (omega (arith, e))
