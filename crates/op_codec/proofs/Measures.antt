-- How long lists are, entry by entry, and what has a spelling where they aren't too long.
use Rattle.std.proofs.Common.{◌≡◌, ℕ, zero, suc, ◌+◌, ◌<◌, ◌≤◌, List, [], ◌∷◌, length, take, get_or, sym, ap, subst, ◌∙◌, arith, add-one}
use Rattle.std.specs.List.{flat_map, AllByRecursion}
use Rattle.std.proofs.lemmas.List.{length-append}
use Rattle.std.proofs.lemmas.List.Concat.{flat_map-cons}
use Rattle.doc_items.specs.Maps.{Key}
use Rattle.op_codec.specs.Spelling.{text, change, attribute, component}
use Rattle.doc_items.specs.declared.change.Change.{Change}
use Rattle.doc_op.specs.declared.component.Component.{Component}
use Rattle.doc_op.specs.declared.component.Component.TheVariants.{Retain, Characters, ElementStart, ElementEnd, DeleteCharacters, DeleteElementStart, DeleteElementEnd, ReplaceAttributes, UpdateAttributes, AnnotationBoundary}

pub one_more : (k : ℕ) (e : Key × Key) (es : List (Key × Key)) (total : ℕ) → k + length (flat_map attribute (e ∷ es)) ≡ total → k + length (attribute e) + length (flat_map attribute es) ≡ total
one_more k e es total h =
    let both : length (flat_map attribute (e ∷ es)) ≡ length (attribute e) + length (flat_map attribute es) = ap length (flat_map-cons attribute e es) ∙ length-append (attribute e) (flat_map attribute es) in
    omega (arith, h, both)

module _ {X : Type 0} (f : X → List ℕ) where
  pub cons_length : (x : X) (xs : List X) → length (flat_map f (x ∷ xs)) ≡ length (f x) + length (flat_map f xs)
  cons_length x xs = ap length (flat_map-cons f x xs) ∙ length-append (f x) (flat_map f xs)

  -- as many as the bytes at most, where each has one
  pub count_within : ((x : X) → 0 < length (f x)) → (xs : List X) → length xs ≤ length (flat_map f xs)
  count_within some [] = omega arith
  count_within some (x ∷ xs) =
      let rest = count_within some xs in
      let here = some x in
      let both = cons_length x xs in
      omega (arith, rest, here, both)

  -- one of them is no longer than all
  pub part_within : (xs : List X) (i : ℕ) (x : X) → i < length xs → x ≡ get_or xs i x → length (f x) ≤ length (flat_map f xs)
  part_within [] i x h is = absurd (omega (arith, h))
  part_within (y ∷ ys) zero x h is =
      let same = ap (λ z. length (f z)) is in
      let both = cons_length y ys in
      omega (arith, same, both)
  part_within (y ∷ ys) (suc i) x h is =
      let rest = part_within ys i x (omega (arith, h)) is in
      let both = cons_length y ys in
      omega (arith, rest, both)

  next_more : (xs : List X) (i : ℕ) (x : X) → i < length xs → x ≡ get_or xs i x → length (flat_map f (take (suc i) xs)) ≡ length (flat_map f (take i xs)) + length (f x)
  next_more [] i x h is = absurd (omega (arith, h))
  next_more (y ∷ ys) zero x h is =
      let same = ap (λ z. length (f z)) is in
      let both = cons_length y [] in
      omega (arith, same, both)
  next_more (y ∷ ys) (suc i) x h is =
      let rest = next_more ys i x (omega (arith, h)) is in
      let both = cons_length y (take i ys) in
      let more = cons_length y (take (suc i) ys) in
      omega (arith, rest, both, more)

  -- one more
  pub take_more : (xs : List X) (i : ℕ) (x : X) → i < length xs → x ≡ get_or xs i x → length (flat_map f (take (i + 1) xs)) ≡ length (flat_map f (take i xs)) + length (f x)
  take_more xs i x h is = ap (λ n. length (flat_map f (take n xs))) (add-one i) ∙ next_more xs i x h is

module _ {X : Type 0} (P : X → Type 0) where
  pub all_of : (xs : List X) (i : ℕ) → length xs ≤ i → AllByRecursion P (take i xs) → AllByRecursion P xs
  all_of [] i h all = tt
  all_of (y ∷ ys) zero h all = absurd (omega (arith, h))
  all_of (y ∷ ys) (suc i) h all = (all.0, all_of ys i (omega (arith, h)) all.1)

  all_next : (xs : List X) (i : ℕ) (x : X) → i < length xs → x ≡ get_or xs i x → AllByRecursion P (take i xs) → P x → AllByRecursion P (take (suc i) xs)
  all_next [] i x h is all p = absurd (omega (arith, h))
  all_next (y ∷ ys) zero x h is all p = (subst P is p, tt)
  all_next (y ∷ ys) (suc i) x h is all p = (all.0, all_next ys i x (omega (arith, h)) is all.1 p)

  pub all_snoc : (xs : List X) (i : ℕ) (x : X) → i < length xs → x ≡ get_or xs i x → AllByRecursion P (take i xs) → P x → AllByRecursion P (take (i + 1) xs)
  all_snoc xs i x h is all p = subst (λ n. AllByRecursion P (take n xs)) (sym (add-one i)) (all_next xs i x h is all p)

-- ---- each part has a byte

pub text_some : (t : List ℕ) → 0 < length (text t)
text_some t = omega arith

pub change_some : (c : Change) → 0 < length (change c)
change_some c = omega arith

pub attribute_some : (e : Key × Key) → 0 < length (attribute e)
attribute_some e = omega arith

pub component_some : (c : Component) → 0 < length (component c)
component_some (Retain n) = omega arith
component_some (Characters t) = omega arith
component_some (ElementStart kind m) = omega arith
component_some ElementEnd = omega arith
component_some (DeleteCharacters t) = omega arith
component_some (DeleteElementStart kind m) = omega arith
component_some DeleteElementEnd = omega arith
component_some (ReplaceAttributes old new) = omega arith
component_some (UpdateAttributes cs) = omega arith
component_some (AnnotationBoundary b) = omega arith
