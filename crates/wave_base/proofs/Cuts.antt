-- A text cut at a byte: whether the byte is there, and the parts on both sides of it.
use Rattle.std.proofs.Common.{◌≡◌, ◌<◌, ◌≤◌, ◌==◌, ◌||◌, ◌&&◌, ◌+◌, ℕ, Bool, true, false, not, cond, ltb, leb, eqb, length, List, [], ◌∷◌, Option, None, Some, take_all, sym, ap, ◌∙◌, arith, Bor}
use Rattle.std.specs.Option.{MatchOption}
use Rattle.std.specs.List.{list_any, position_or_len, before_first, after_first}
use Rattle.std.proofs.lemmas.List.{drop_all}
use Rattle.std.proofs.lemmas.Bool.Decides.{nat_tests}
use Rattle.wave_base.specs.Grammar.{IsCut, before, behind, joined}

step : (b : Bool) (rest : Bool) (place count : ℕ) → rest ≡ ltb place count → (b || rest) ≡ ltb (cond (not b) (1 + place) 0) (1 + count)
step true rest place count e = grind (arith, nat_tests)
step false rest place count e = e ∙ grind (arith, nat_tests)

pub any-first : {X : Type 0} (p : X → Bool) (xs : List X) → list_any p xs ≡ ltb (position_or_len p xs) (length xs)
any-first p [] = grind (arith, nat_tests)
any-first p (x ∷ xs) = step (p x) (list_any p xs) (position_or_len p xs) (length xs) (any-first p xs) ∙ ap (ltb (position_or_len p (x ∷ xs))) (omega arith)

pub cuts : (b : ℕ) (t : List ℕ) (r : Option (Bor (List ℕ) × Bor (List ℕ))) → MatchOption r (position_or_len (λ c. eqb c b) t ≡ length t) (λ x. (position_or_len (λ c. eqb c b) t < length t) × (x.0.now ≡ before_first (λ c. eqb c b) t) × (x.1.now ≡ after_first (λ c. eqb c b) t))
    → MatchOption r (list_any (λ c. c == b) t ≡ false) (λ x. IsCut b t x.0.now x.1.now)
unfolding before behind
cuts b t None h = any-first (λ c. eqb c b) t ∙ grind (arith, nat_tests)
cuts b t (Some x) h = (any-first (λ c. eqb c b) t ∙ grind (arith, nat_tests), h.1, h.2)

module _ (b : ℕ) (p q : List ℕ → Bool) (t : List ℕ) where
  pub joined-none : list_any (λ c. c == b) t ≡ false → joined b p q t ≡ false
  unfolding joined
  joined-none e = ap (λ x. x && p (before b t) && q (behind b t)) e

  pub joined-cut : (front back : List ℕ) → IsCut b t front back → joined b p q t ≡ (p front && q back)
  unfolding joined
  joined-cut front back (here, f, k) = λ i. here i && p (sym f i) && q (sym k i)

  pub joined-both : (front back : List ℕ) (x y : Bool) → IsCut b t front back → x ≡ p front → x ≡ true → y ≡ q back → y ≡ joined b p q t
  joined-both front back x y cut e is f = f ∙ ap (λ z. z && q back) (sym is ∙ e) ∙ sym (joined-cut front back cut)

  pub joined-not : (front back : List ℕ) (x : Bool) → IsCut b t front back → x ≡ p front → x ≡ false → x ≡ joined b p q t
  joined-not front back x cut e is = is ∙ ap (λ z. z && q back) (sym is ∙ e) ∙ sym (joined-cut front back cut)

-- no longer than the limit, or longer
pub within : (n limit : ℕ) (x y : Bool) → n ≤ limit → x ≡ y → x ≡ (leb n limit && y)
within n limit x y h e = let short : leb n limit ≡ true = grind (arith, nat_tests) in e ∙ ap (λ b. b && y) (sym short)

pub beyond : (n limit : ℕ) (y : Bool) → limit < n → leb n limit ≡ (leb n limit && y)
beyond n limit y h = let long : leb n limit ≡ false = grind (arith, nat_tests) in long ∙ ap (λ b. b && y) (sym long)

-- a text without the byte
pub before-all : (b : ℕ) (t : List ℕ) → list_any (λ c. c == b) t ≡ false → before b t ≡ t
unfolding before
before-all b t e = take_all (position_or_len (λ c. c == b) t) t (grind (arith, nat_tests, sym (any-first (λ c. c == b) t) ∙ e))

pub behind-none : (b : ℕ) (t : List ℕ) → list_any (λ c. c == b) t ≡ false → behind b t ≡ []
unfolding behind
behind-none b t e = drop_all (position_or_len (λ c. c == b) t + 1) t (grind (arith, nat_tests, sym (any-first (λ c. c == b) t) ∙ e))
