-- A walk over the histories of a shelf, of which a domain hosts some.
--     step_none, step_past, step_on     what is left at the next place: where there is nothing more, the history there isn't shown, or is
--     nothing_left                      past the last one
use Rattle.std.proofs.Common.{◌≡◌, ◌==◌, ℕ, zero, suc, ◌+◌, Bool, true, false, not, ◌&&◌, cond, List, [], ◌∷◌, length, drop, slice_get, Option, Some, None, refl, sym, ap, ◌∙◌, true≢false, arith}
use Rattle.std.proofs.lemmas.Bool.{ne_eqb}
use Rattle.wavelet_op.specs.Deltas.{DeltaOf}
use Rattle.wavelet_shelf.specs.Entries.{shown, shown_by}
use Rattle.wavelet_shelf.specs.Hosting.{Hosted}
use Rattle.doc_items.specs.Maps.{Key}
use Rattle.hosted_copies.specs.Domains.{is_hosted_by, hosted_by, is_shown_by}

no_value : {X T : Type 0} {x : X} → None ≡ Some x → T
no_value e = absurd (cc)

no_none : {X T : Type 0} {x : X} → Some x ≡ None → T
no_none e = absurd (cc)

same_Some : {X : Type 0} {x y : X} → Some x ≡ Some y → x ≡ y
same_Some e = cc

more : (i : ℕ) → suc i ≡ i + 1
more i = omega arith

past : {X : Type 0} (xs : List X) (i : ℕ) → slice_get xs i ≡ None → drop i xs ≡ drop (suc i) xs
past [] zero e = refl
past [] (suc i) e = refl
past (x ∷ xs) zero e = no_none e
past (x ∷ xs) (suc i) e = past xs i e

there : {X : Type 0} (xs : List X) (i : ℕ) (x : X) → slice_get xs i ≡ Some x → drop i xs ≡ x ∷ drop (suc i) xs
there [] i x e = no_value e
there (y ∷ xs) zero x e = ap (λ z. z ∷ xs) (same_Some e)
there (y ∷ xs) (suc i) x e = there xs i x e

whole : {X : Type 0} (xs : List X) → drop (length xs) xs ≡ []
whole [] = refl
whole (x ∷ xs) = whole xs

some_length : (n : ℕ) → (suc n == 0) ≡ false
some_length n = ne_eqb (suc n) 0 (λ e. absurd (omega (arith, e)))

module _ (domain : Key) where
  abbrev left : List Hosted → ℕ → List Hosted
  left all i = hosted_by domain (shown (drop i all))

  pub step_none : (all : List Hosted) (i : ℕ) → slice_get all i ≡ None → left all i ≡ left all (i + 1)
  step_none all i e = ap (λ hs. hosted_by domain (shown hs)) (past all i e ∙ ap (λ k. drop k all) (more i))

  one : (h : Hosted) (rest : List Hosted) (ds : List DeltaOf) (b : Bool) → h.deltas ≡ ds → is_hosted_by domain h.name ≡ b
      → hosted_by domain (shown_by h ds rest) ≡ cond (not (length ds == 0) && b) (h ∷ hosted_by domain rest) (hosted_by domain rest)
  one h rest [] b e f = refl
  one h rest (d ∷ ds) b e f = ap (λ c. cond c (h ∷ hosted_by domain rest) (hosted_by domain rest)) (f ∙ sym (ap (λ t. not t && b) (some_length (length ds))))

  first : (h : Hosted) (hs : List Hosted) → hosted_by domain (shown (h ∷ hs)) ≡ cond (is_shown_by domain h) (h ∷ hosted_by domain (shown hs)) (hosted_by domain (shown hs))
  first h hs = one h (shown hs) h.deltas (is_hosted_by domain h.name) refl refl

  at : (all : List Hosted) (i : ℕ) (h : Hosted) (b : Bool) → slice_get all i ≡ Some h → is_shown_by domain h ≡ b → left all i ≡ cond b (h ∷ left all (i + 1)) (left all (i + 1))
  at all i h b e f = ap (λ hs. hosted_by domain (shown hs)) (there all i h e ∙ ap (λ k. h ∷ drop k all) (more i)) ∙ first h (drop (i + 1) all) ∙ ap (λ b. cond b (h ∷ left all (i + 1)) (left all (i + 1))) f

  pub step_past : (all : List Hosted) (i : ℕ) (h : Hosted) → slice_get all i ≡ Some h → is_shown_by domain h ≡ false → left all i ≡ left all (i + 1)
  step_past all i h e f = at all i h false e f

  pub step_on : (all : List Hosted) (i : ℕ) (h : Hosted) → slice_get all i ≡ Some h → is_shown_by domain h ≡ true → left all i ≡ h ∷ left all (i + 1)
  step_on all i h e f = at all i h true e f

  pub nothing_left : (all : List Hosted) → left all (length all) ≡ []
  nothing_left all = ap (λ hs. hosted_by domain (shown hs)) (whole all)
