-- Laws of lists of pieces.
use Rattle.std.proofs.Common.{◌≡◌, ℕ, ◌+◌, ◌-◌, ◌<◌, ◌≤◌, true, false, cond, List, [], ◌∷◌, ◌++◌, length, refl, sym, ap, ◌∙◌, add_assoc, append_assoc, append-nil, reverse, take, drop, arith, length-append, nat_le}
use Rattle.std.proofs.lemmas.List.{reverse-append, take_at, drop_at, drop-drop}
use Rattle.std.proofs.lemmas.Bool.{le-leb, lt-leb}
use Rattle.doc_rope.specs.Pieces.{total, joined, add_last}

pub total_append : {T : Type 0} (xs ys : List (List T)) → total (xs ++ ys) ≡ total xs + total ys
total_append [] ys = omega arith
total_append (x ∷ xs) ys = ap (λ n. length x + n) (total_append xs ys) ∙ sym (add_assoc (length x) (total xs) (total ys))

pub joined_append : {T : Type 0} (xs ys : List (List T)) → joined (xs ++ ys) ≡ joined xs ++ joined ys
joined_append [] ys = refl
joined_append (x ∷ xs) ys = ap (λ n. x ++ n) (joined_append xs ys) ∙ sym (append_assoc x (joined xs) (joined ys))

pub length_joined : {T : Type 0} (xs : List (List T)) → length (joined xs) ≡ total xs
length_joined [] = refl
length_joined (x ∷ xs) = length-append x (joined xs) ∙ ap (λ n. length x + n) (length_joined xs)

pub append_cons : {A : Type 0} (xs : List A) (x : A) (ys : List A) (y : A) (zs : List A) → (xs ++ x ∷ ys) ++ y ∷ zs ≡ xs ++ x ∷ (ys ++ y ∷ zs)
append_cons xs x ys y zs = append_assoc xs (x ∷ ys) (y ∷ zs)

pub length_cut : {A : Type 0} (xs : List A) (x : A) (ys : List A) → length (xs ++ x ∷ ys) ≡ (length xs + length ys) + 1
length_cut xs x ys = grind (arith, length-append)

pub add_last_append : {T : Type 0} (xs : List (List T)) (p : List T) (ys : List (List T)) (q : List T) → add_last (xs ++ p ∷ ys) q ≡ xs ++ add_last (p ∷ ys) q
add_last_append [] p ys q = refl
add_last_append (x ∷ []) p ys q = refl
add_last_append (x ∷ y ∷ xs) p ys q = ap (λ n. x ∷ n) (add_last_append (y ∷ xs) p ys q)

pub add_last_more : {T : Type 0} (xs : List (List T)) (p : List T) (ys : List (List T)) (q : List T) → 0 < length ys → add_last (xs ++ p ∷ ys) q ≡ xs ++ p ∷ add_last ys q
add_last_more xs p [] q h = absurd (omega (arith, h))
add_last_more xs p (y ∷ ys) q h = add_last_append xs p (y ∷ ys) q

pub total_add_last : {T : Type 0} (ps : List (List T)) (q : List T) → total (add_last ps q) ≡ total ps + length q
total_add_last [] q = omega arith
total_add_last (p ∷ []) q = elim (nat_le (length p + length q) 128) as (λ b. total (cond b ((p ++ q) ∷ []) (p ∷ q ∷ [])) ≡ total (p ∷ []) + length q) [ true ↦ grind (arith, length-append) | false ↦ omega arith ]
total_add_last (p ∷ r ∷ ps) q = let e = total_add_last (r ∷ ps) q in omega (arith, e)

pub joined_add_last : {T : Type 0} (ps : List (List T)) (q : List T) → joined (add_last ps q) ≡ joined ps ++ q
joined_add_last [] q = append-nil q
joined_add_last (p ∷ []) q = elim (nat_le (length p + length q) 128) as (λ b. joined (cond b ((p ++ q) ∷ []) (p ∷ q ∷ [])) ≡ joined (p ∷ []) ++ q) [ true ↦ simp append-nil refl | false ↦ simp append-nil refl ]
joined_add_last (p ∷ r ∷ ps) q = ap (λ n. p ++ n) (joined_add_last (r ∷ ps) q) ∙ sym (append_assoc p (joined (r ∷ ps)) q)

pub length_both : {A : Type 0} (xs ys : List A) → length (xs ++ ys) ≡ length xs + length ys
length_both xs ys = length-append xs ys

pub add_last_fits : {T : Type 0} (p q : List T) → length p + length q ≤ 128 → add_last (p ∷ []) q ≡ (p ++ q) ∷ []
add_last_fits p q h = ap (λ b. cond b ((p ++ q) ∷ []) (p ∷ q ∷ [])) (le-leb (length p + length q) 128 h)

pub add_last_apart : {T : Type 0} (p q : List T) → 128 < length p + length q → add_last (p ∷ []) q ≡ p ∷ q ∷ []
add_last_apart p q h = ap (λ b. cond b ((p ++ q) ∷ []) (p ∷ q ∷ [])) (lt-leb (length p + length q) 128 h)

pub append_nothing : {A : Type 0} (xs : List A) → xs ++ [] ≡ xs
append_nothing xs = append-nil xs

pub append_one_more : {A : Type 0} (xs : List A) (x : A) (ys : List A) → (xs ++ x ∷ []) ++ reverse ys ≡ xs ++ reverse (ys ++ x ∷ [])
append_one_more xs x ys = append_assoc xs (x ∷ []) (reverse ys) ∙ ap (λ n. xs ++ n) (sym (reverse-append ys (x ∷ [])))

pub spliced : {A : Type 0} (w a b c d m : List A) (i n : ℕ) → w ≡ a ++ b → length a ≡ i → b ≡ c ++ d → length c ≡ n → (a ++ m) ++ d ≡ (take i w ++ m) ++ drop (i + n) w
spliced w a b c d m i n e f g h =
    let first : take i w ≡ a = ap (take i) e ∙ take_at a b i f in
    let rest : drop i w ≡ b = ap (drop i) e ∙ drop_at a b i f in
    let last : drop (i + n) w ≡ d = sym (drop-drop n i w) ∙ ap (drop n) (rest ∙ g) ∙ drop_at c d n h in
    λ j. (sym first j ++ m) ++ sym last j

pub length_halves : {T : Type 0} (w : List T) (b a : List (List T)) → w ≡ joined b ++ joined a → length w ≡ total b + total a
length_halves w b a e = ap length e ∙ length-append (joined b) (joined a) ∙ (λ i. length_joined b i + length_joined a i)

pub copied_out : {T : Type 0} (o a b n : List T) (ls : List (List T)) (p : List T) (rs : List (List T)) → a ≡ o ++ joined ls → b ≡ a ++ p → n ≡ b ++ joined rs → n ≡ o ++ joined (ls ++ p ∷ rs)
copied_out o a b n ls p rs e f g =
    g ∙ ap (λ w. w ++ joined rs) (f ∙ ap (λ w. w ++ p) e)
    ∙ append_assoc (o ++ joined ls) p (joined rs)
    ∙ append_assoc o (joined ls) (p ++ joined rs)
    ∙ ap (λ w. o ++ w) (sym (joined_append ls (p ∷ rs)))

pub fits_again : {T : Type 0} (xs ys ls rs : List (List T)) (p q : List T) (n : ℕ) → xs ≡ ls → ys ≡ rs → p ≡ q → total (ls ++ q ∷ rs) < n → total xs + (length p + total ys) < n
fits_again xs ys ls rs p q n e f g h =
    let a = ap total e in
    let b = ap total f in
    let c = ap length g in
    let d = total_append ls (q ∷ rs) in
    omega (arith, a, b, c, d, h)

pub past_all : {T : Type 0} (ls : List (List T)) (p : List T) (rs : List (List T)) (k : ℕ) → total ls ≤ k → length p ≤ k - total ls → total rs ≤ k - total ls - length p → total (ls ++ p ∷ rs) ≤ k
past_all ls p rs k h i j = let d = total_append ls (p ∷ rs) in omega (arith, d, h, i, j)
