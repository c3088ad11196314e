-- The verdicts that are kept.
--     newest_few        there are no more of them than may be
--     newest_all        all of a list that isn't longer
--     newest_once, newest_stay     the laws
use Rattle.std.proofs.Common.{◌≡◌, ◌+◌, ◌-◌, ◌≤◌, ◌<◌, ◌⊎◌, inl, inr, ℕ, zero, suc, List, [], ◌∷◌, ◌++◌, length, drop, Contains, refl, sym, ap, subst, ◌∙◌, arith}
use Rattle.std.proofs.lemmas.List.{drop-append-le, length-append, length-drop}
use Rattle.std.proofs.lemmas.List.Elements.{Contains-append_right}
use Rattle.replica_store.specs.declared.outcomes.Noted.{Noted}
use Rattle.replica_store.specs.Copies.{most_noted}
use Rattle.replica_store.specs.Settling.{newest}
use Rattle.replica_store.specs.Laws.{NewestOnce, NewestStay}

pub newest_few : (ns : List Noted) → length (newest ns) ≤ most_noted
newest_few ns = let l = length-drop (length ns - most_noted) ns in omega (arith, l)

pub newest_all : (ns : List Noted) → length ns ≤ most_noted → newest ns ≡ ns
newest_all ns few = let none : length ns - most_noted ≡ 0 = omega (arith, few) in ap (λ k. drop k ns) none

drop_one_more : {A : Type 0} (k : ℕ) (xs : List A) → drop 1 (drop k xs) ≡ drop (suc k) xs
drop_one_more zero xs = refl
drop_one_more (suc k) [] = refl
drop_one_more (suc k) (x ∷ xs) = drop_one_more k xs

either : (k m : ℕ) → (k ≤ m) ⊎ (m ≤ k)
either zero m = inl (omega arith)
either (suc k) zero = inr (omega arith)
either (suc k) (suc m) = go (either k m)
  where
    go : (k ≤ m) ⊎ (m ≤ k) → (suc k ≤ suc m) ⊎ (suc m ≤ suc k)
    go (inl h) = inl (omega (arith, h))
    go (inr h) = inr (omega (arith, h))

pub newest_once : NewestOnce
newest_once ns n = go (either (length ns) most_noted)
  where
    go : (length ns ≤ most_noted) ⊎ (most_noted ≤ length ns) → newest (newest ns ++ n ∷ []) ≡ newest (ns ++ n ∷ [])
    go (inl few) = ap (λ z. newest (z ++ n ∷ [])) (newest_all ns few)
    go (inr many) =
        let k : ℕ = length ns - most_noted in
        let l = length-drop k ns in
        let whole : length (newest ns ++ n ∷ []) - most_noted ≡ 1 = (let a = length-append (newest ns) (n ∷ []) in omega (arith, a, l, many)) in
        let more : length (ns ++ n ∷ []) - most_noted ≡ suc k = (let a = length-append ns (n ∷ []) in omega (arith, a, many)) in
        ap (λ j. drop j (newest ns ++ n ∷ [])) whole
        ∙ ap (drop 1) (sym (drop-append-le k ns (n ∷ []) (omega arith)))
        ∙ drop_one_more k (ns ++ n ∷ [])
        ∙ ap (λ j. drop j (ns ++ n ∷ [])) (sym more)

pub newest_stay : NewestStay
newest_stay before after n few =
    let k : ℕ = length (before ++ n ∷ after) - most_noted in
    let a = length-append before (n ∷ after) in
    let is = drop-append-le k before (n ∷ after) (omega (arith, a, few)) in
    subst (λ z. Contains z n) (sym is) (Contains-append_right (drop k before) (n ∷ after) n (0, omega arith, refl))
