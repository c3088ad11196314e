-- A walk over borrowed keys, with a value for each.
--     next_listed               one value more, after the others
--     next_back                 where each key that is left has a property all have it, and so with one key less
--     first_there, rest_there   a property of all keys that are left is one of the first, and of the others
use Rattle.std.proofs.Common.{◌≡◌, ◌+◌, ◌<◌, ℕ, List, [], ◌∷◌, ◌++◌, length, map, drop, sym, ap, subst, ◌∙◌, slice_index_or, append_assoc}
use Rattle.std.specs.List.{All}
use Rattle.std.proofs.lemmas.List.{map-append, drop_more}
use Rattle.std.proofs.lemmas.List.Elements.{All-cons, All-head, All-tail}
use Rattle.serde_json.specs.Data.{Data}
use Rattle.serde_json.specs.View.{view}
use Rattle.serde_json.specs.declared.value.Value.{Value}

module _ {X K : Type 0} (now : X → K) where
  left_from : (xs : List X) (i : ℕ) (x : X) → i < length xs → x ≡ slice_index_or xs i x → map now (drop i xs) ≡ now x ∷ map now (drop (i + 1) xs)
  left_from xs i x h e = ap (map now) (drop_more xs i x h ∙ ap (λ z. z ∷ drop (i + 1) xs) (sym e))

  pub next_listed : (f : K → Data) (ks : List K) (vs all : List Value) (v : Value) (xs : List X) (i : ℕ) (x : X) → map view vs ++ map f (map now (drop i xs)) ≡ map f ks → i < length xs → x ≡ slice_index_or xs i x
      → view v ≡ f (now x) → all ≡ vs ++ v ∷ [] → map view all ++ map f (map now (drop (i + 1) xs)) ≡ map f ks
  next_listed f ks vs all v xs i x h l e w g =
      let rest = map f (map now (drop (i + 1) xs)) in
      ap (λ z. map view z ++ rest) g ∙ ap (λ z. z ++ rest) (map-append view vs (v ∷ [])) ∙ append_assoc (map view vs) (view v ∷ []) rest
      ∙ ap (λ z. map view vs ++ z ∷ rest) w ∙ ap (λ z. map view vs ++ map f z) (sym (left_from xs i x l e)) ∙ h

  pub next_back : (P : K → Type 0) (ks : List K) (xs : List X) (i : ℕ) (x : X) → (All P (map now (drop i xs)) → All P ks) → i < length xs → x ≡ slice_index_or xs i x
      → P (now x) → All P (map now (drop (i + 1) xs)) → All P ks
  next_back P ks xs i x b l e p rest = b (subst (λ z. All P z) (sym (left_from xs i x l e)) (All-cons P (now x) (map now (drop (i + 1) xs)) p rest))

  pub first_there : (P : K → Type 0) (xs : List X) (i : ℕ) (x : X) → All P (map now (drop i xs)) → i < length xs → x ≡ slice_index_or xs i x → P (now x)
  first_there P xs i x h l e = All-head P (now x) (map now (drop (i + 1) xs)) (subst (λ z. All P z) (left_from xs i x l e) h)

  pub rest_there : (P : K → Type 0) (xs : List X) (i : ℕ) (x : X) → All P (map now (drop i xs)) → i < length xs → x ≡ slice_index_or xs i x → All P (map now (drop (i + 1) xs))
  rest_there P xs i x h l e = All-tail P (now x) (map now (drop (i + 1) xs)) (subst (λ z. All P z) (left_from xs i x l e) h)
