-- Numbers that are added up, and readings that follow others.
--     total_one, total_same     one of the numbers rose; none did
--     taken_none, taken_one, taken_more     no reading, one, and more after others
use Rattle.std.proofs.Common.{sym, ap, refl, subst, ◌∙◌, ◌≡◌, ◌≢◌, ◌+◌, ◌<◌, ◌≤◌, ◌⊎◌, inl, inr, ℕ, zero, suc, arith, List, [], ◌∷◌, ◌++◌, length, length-append, slice_get, Some}
use Rattle.session_steps.specs.Jobs.{AreTaken}
use Rattle.session_steps.specs.Served.{total}

pub total_same : (n : ℕ) (f g : ℕ → ℕ) → ((k : ℕ) → g k ≡ f k) → total n g ≡ total n f
total_same zero f g same = refl
total_same (suc n) f g same = let a = total_same n f g same in let b = same n in omega (arith, a, b)

-- up to a number that isn't among them
total_below : (n k gained : ℕ) (f g : ℕ → ℕ) → n ≤ k → ((j : ℕ) → j ≢ k → g j ≡ f j) → total n g ≡ total n f
total_below zero k gained f g up same = refl
total_below (suc n) k gained f g up same =
    let a = total_below n k gained f g (omega (arith, up)) same in let b = same n (omega (arith, up)) in omega (arith, a, b)

same_or_not : (j k : ℕ) → (j ≡ k) ⊎ (j ≢ k)
same_or_not j k = grind arith

pub total_one : (n k gained : ℕ) (f g : ℕ → ℕ) → k < n → g k ≡ f k + gained → ((j : ℕ) → j ≢ k → g j ≡ f j) → total n g ≡ total n f + gained
total_one zero k gained f g up one same = absurd (omega (arith, up))
total_one (suc n) k gained f g up one same = go (same_or_not k n) (λ l. total_one n k gained f g l one same)
  where
    go : (k ≡ n) ⊎ (k ≢ n) → (k < n → total n g ≡ total n f + gained) → total (suc n) g ≡ total (suc n) f + gained
    go (inl e) below =
        let a = total_below n k gained f g (omega (arith, e)) same in
        let b : g n ≡ f n + gained = subst (λ m. g m ≡ f m + gained) e one in omega (arith, a, b)
    go (inr l) below = let a = below (omega (arith, up, l)) in let b = same n (λ e. l (sym e)) in omega (arith, a, b)

zero_more : (i : ℕ) → i ≡ 0 + i
zero_more i = omega arith

one_more : (i : ℕ) → i + 1 ≡ 1 + i
one_more i = omega arith

suc_more : (n j : ℕ) → suc n + j ≡ suc (n + j)
suc_more n j = omega arith

both_more : (a b c i : ℕ) → c ≡ a + b → a + (b + i) ≡ c + i
both_more a b c i e = omega (arith, e)

pub taken_none : (f : ℕ → ℕ) → AreTaken f f []
taken_none f = record { each = λ i t e. none i t e; rest = λ i. ap f (zero_more i) }
  where
    none : (i t : ℕ) → slice_get [] i ≡ Some t → t ≡ f i
    none i t e = grind arith

pub taken_one : (f g : ℕ → ℕ) (t : ℕ) → t ≡ f 0 → ((k : ℕ) → g k ≡ f (k + 1)) → AreTaken f g (t ∷ [])
taken_one f g t first rest = record { each = each; rest = λ i. rest i ∙ ap f (one_more i) }
  where
    each : (i u : ℕ) → slice_get (t ∷ []) i ≡ Some u → u ≡ f i
    each zero u e = grind (arith, first)
    each (suc i) u e = grind arith

each_more : (xs ys : List ℕ) (f : ℕ → ℕ) → ((i t : ℕ) → slice_get xs i ≡ Some t → t ≡ f i) → ((i t : ℕ) → slice_get ys i ≡ Some t → t ≡ f (length xs + i))
    → (i t : ℕ) → slice_get (xs ++ ys) i ≡ Some t → t ≡ f i
each_more [] ys f a b i t e = b i t e ∙ sym (ap f (zero_more i))
each_more (x ∷ xs) ys f a b zero t e = a zero t e
each_more (x ∷ xs) ys f a b (suc i) t e =
    each_more xs ys (λ j. f (suc j)) (λ j u h. a (suc j) u h) (λ j u h. b j u h ∙ ap f (suc_more (length xs) j)) i t e

pub taken_more : (f g h : ℕ → ℕ) (xs ys : List ℕ) → AreTaken f g xs → AreTaken g h ys → AreTaken f h (xs ++ ys)
taken_more f g h xs ys a b = record {
  each = each_more xs ys f a.each (λ i t e. b.each i t e ∙ a.rest i);
  rest = λ i. b.rest i ∙ a.rest (length ys + i) ∙ ap f (both_more (length xs) (length ys) (length (xs ++ ys)) i (length-append xs ys));
}
