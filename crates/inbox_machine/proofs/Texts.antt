-- What is printed, one after the other.
--     cons_at                 what stands at a place, and what is left
--     text_next, text_all     one more, and all
use Rattle.std.proofs.Common.{◌≡◌, ◌+◌, ◌<◌, ◌≤◌, ℕ, List, ◌∷◌, ◌++◌, length, drop, drop-cons, add-one, get_or, sym, ap, ◌∙◌, append_assoc, append-nil}
use Rattle.std.specs.List.{flat_map}
use Rattle.std.proofs.Math.ListN.{drop_of_length-le}

pub cons_at : {X : Type 0} (xs : List X) (i : ℕ) (x : X) → i < length xs → x ≡ get_or xs i x → drop i xs ≡ x ∷ drop (i + 1) xs
cons_at xs i x h is = drop-cons xs i x h ∙ (λ k. sym is k ∷ drop (sym (add-one i) k) xs)

pub text_next : {X : Type 0} (f : X → List ℕ) (old new : List ℕ) (xs : List X) (i : ℕ) (x : X) → i < length xs → x ≡ get_or xs i x → new ≡ old ++ f x → new ++ flat_map f (drop (i + 1) xs) ≡ old ++ flat_map f (drop i xs)
text_next f old new xs i x h is e =
    ap (λ l. l ++ flat_map f (drop (i + 1) xs)) e
    ∙ append_assoc old (f x) (flat_map f (drop (i + 1) xs))
    ∙ ap (λ l. old ++ flat_map f l) (sym (cons_at xs i x h is))

pub text_all : {X : Type 0} (f : X → List ℕ) (text : List ℕ) (xs : List X) (i : ℕ) → length xs ≤ i → text ++ flat_map f (drop i xs) ≡ text
text_all f text xs i h = ap (λ l. text ++ flat_map f l) (drop_of_length-le xs h) ∙ append-nil text
