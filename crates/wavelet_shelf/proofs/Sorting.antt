-- Names that were sorted, each once.
--     strict_ascends     names that are strictly sorted ascend
--     among_dedup        the same names are among those that are left
use Rattle.std.proofs.Common.{◌≡◌, Bool, true, false, cond, ◌||◌, List, [], ◌∷◌, map, string_bytes, refl, sym, ap, subst, ◌∙◌}
use Rattle.std.specs.List.{list_any, dedup, dedup_from}
use Rattle.std.specs.List.Sorted.{IsSorted, IsPermutation, IsStrictlySortedBy}
use Rattle.std.specs.List.Retain.{IsFiltered, DiffersFromLast}
use Rattle.std.specs.Prelude.{String}
use Rattle.std.specs.String.{string_cmp, string_eq, string_cmp_total}
use Rattle.std.specs.Cmp.Lexicographic.{bytes_decides}
use Rattle.std.specs.Ordering.{eq_by_cmp}
use Rattle.std.proofs.lemmas.List.Filters.{dedup_is}
use Rattle.std.proofs.lemmas.List.Kept.{IsStrictlySortedBy-dedup}
use Rattle.std.proofs.lemmas.List.Sorted.{list_any-IsPermutation}
use Rattle.std.proofs.lemmas.Map.Text.{is_eq-slice_cmp}
use Rattle.doc_items.specs.Maps.{Key, same_text}
use Rattle.delta_history.specs.Copying.{AscendFrom, AreAscending}
use Rattle.wavelet_shelf.specs.Folders.{is_among}

or_twice : (a b : Bool) → a || (a || b) ≡ a || b
or_twice true b = refl
or_twice false b = refl

any_mapped : {X : Type 0} (f : X → Key) (m : Key) (xs : List X) → is_among (map f xs) m ≡ list_any (λ x. same_text m (f x)) xs
any_mapped f m [] = refl
any_mapped f m (x ∷ xs) = ap (λ t. same_text m (f x) || t) (any_mapped f m xs)

any_dedup_from : {X : Type 0} (same : X → X → Bool) (p : X → Bool) → ((x y : X) → same x y ≡ true → p x ≡ p y) → (k : X) (xs : List X) → list_any p (dedup_from same k xs) ≡ p k || list_any p xs
any_dedup_from same p alike k [] = refl
any_dedup_from same p alike k (x ∷ xs) = go (same x k) refl (any_dedup_from same p alike k xs) (any_dedup_from same p alike x xs)
  where
    go : (t : Bool) → same x k ≡ t → list_any p (dedup_from same k xs) ≡ p k || list_any p xs → list_any p (dedup_from same x xs) ≡ p x || list_any p xs → list_any p (cond t (dedup_from same k xs) (k ∷ dedup_from same x xs)) ≡ p k || (p x || list_any p xs)
    go true is rest more = rest ∙ sym (or_twice (p k) (list_any p xs)) ∙ ap (λ t. p k || (t || list_any p xs)) (sym (alike x k is))
    go false is rest more = ap (λ t. p k || t) more

any_dedup : {X : Type 0} (same : X → X → Bool) (p : X → Bool) → ((x y : X) → same x y ≡ true → p x ≡ p y) → (xs : List X) → list_any p (dedup same xs) ≡ list_any p xs
any_dedup same p alike [] = refl
any_dedup same p alike (x ∷ xs) = any_dedup_from same p alike x xs

module _ {Z : Type 0} where
  strict_from : (x : String Z) (xs : List (String Z)) → IsStrictlySortedBy string_cmp (x ∷ xs) → AscendFrom (string_bytes x) (map string_bytes xs)
  unfolding IsStrictlySortedBy
  strict_from x [] s = tt
  strict_from x (y ∷ ys) s = (s.0.0, strict_from y ys s.1)

  strict_ascends : (xs : List (String Z)) → IsStrictlySortedBy string_cmp xs → AreAscending (map string_bytes xs)
  strict_ascends [] s = tt
  strict_ascends (x ∷ xs) s = strict_from x xs s

  ties : (x y : String Z) → string_eq x y ≡ eq_by_cmp string_cmp x y
  ties x y = sym (is_eq-slice_cmp x.bytes.items y.bytes.items)

  alike : (m : Key) (x y : String Z) → string_eq x y ≡ true → same_text m (string_bytes x) ≡ same_text m (string_bytes y)
  alike m x y e = ap (same_text m) ((bytes_decides x.bytes.items y.bytes.items).0 e)

  pub sorted_ascends : (xs ys : List (String Z)) → IsSorted string_cmp xs → IsFiltered (DiffersFromLast string_eq) [] xs ys → AreAscending (map string_bytes ys)
  sorted_ascends xs ys sorted left = subst_ascends (sym (dedup_is string_eq xs ys left)) (strict_ascends (dedup string_eq xs) (IsStrictlySortedBy-dedup string_cmp_total ties xs sorted))
    where
      subst_ascends : {cs bs : List (String Z)} → cs ≡ bs → AreAscending (map string_bytes cs) → AreAscending (map string_bytes bs)
      subst_ascends e a = subst (λ l. AreAscending (map string_bytes l)) e a

  pub sorted_same : (xs ys zs : List (String Z)) (m : Key) → IsPermutation xs ys → IsFiltered (DiffersFromLast string_eq) [] ys zs → is_among (map string_bytes zs) m ≡ is_among (map string_bytes xs) m
  sorted_same xs ys zs m moved left =
      ap (λ l. is_among (map string_bytes l) m) (dedup_is string_eq ys zs left)
      ∙ any_mapped string_bytes m (dedup string_eq ys)
      ∙ any_dedup string_eq (λ x. same_text m (string_bytes x)) (alike m) ys
      ∙ sym (list_any-IsPermutation (λ x. same_text m (string_bytes x)) xs ys moved)
      ∙ sym (any_mapped string_bytes m xs)
