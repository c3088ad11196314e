-- Laws of items put in place of others inside one piece.
use Rattle.std.proofs.Common.{◌≡◌, ℕ, suc, ◌+◌, ◌≤◌, List, ◌∷◌, ◌++◌, length, take, drop, sym, ap, ◌∙◌, append_assoc, arith, length-append, length-drop}
use Rattle.std.proofs.lemmas.List.{take-append-le, drop-append-le, take_at, drop_at, drop-drop, length-take-le}
use Rattle.std.proofs.Math.Seq.{take-append-add, drop-append-add}
use Rattle.doc_rope.specs.Pieces.{total, joined}
use Rattle.doc_rope.proofs.Laws.{joined_append, length_joined}

-- ---- the items

pub put_left : {A : Type 0} (a b m : List A) (f n : ℕ) → f + n ≤ length a → ((take f a ++ m) ++ drop (f + n) a) ++ b ≡ (take f (a ++ b) ++ m) ++ drop (f + n) (a ++ b)
put_left a b m f n h =
    append_assoc (take f a ++ m) (drop (f + n) a) b
    ∙ (λ i. (sym (take-append-le f a b (omega (arith, h))) i ++ m) ++ sym (drop-append-le (f + n) a b h) i)

pub put_right : {A : Type 0} (a b m : List A) (f g n : ℕ) → f ≡ length a + g → a ++ ((take g b ++ m) ++ drop (g + n) b) ≡ (take f (a ++ b) ++ m) ++ drop (f + n) (a ++ b)
put_right a b m f g n h =
    let front : take f (a ++ b) ≡ a ++ take g b = ap (λ k. take k (a ++ b)) h ∙ take-append-add a b g in
    let past : f + n ≡ length a + (g + n) = omega (arith, h) in
    let back : drop (f + n) (a ++ b) ≡ drop (g + n) b = ap (λ k. drop k (a ++ b)) past ∙ drop-append-add a b (g + n) in
    sym (append_assoc a (take g b ++ m) (drop (g + n) b))
    ∙ ap (λ w. w ++ drop (g + n) b) (sym (append_assoc a (take g b) m))
    ∙ (λ i. (sym front i ++ m) ++ sym back i)

-- in a piece, with what stands on either side of it
pub joined_left : {T : Type 0} (ls ns : List (List T)) (p : List T) (rs : List (List T)) (m : List T) (f n : ℕ) → f + n ≤ total ls → joined ns ≡ (take f (joined ls) ++ m) ++ drop (f + n) (joined ls) → joined (ns ++ p ∷ rs) ≡ (take f (joined (ls ++ p ∷ rs)) ++ m) ++ drop (f + n) (joined (ls ++ p ∷ rs))
joined_left ls ns p rs m f n h e =
    let whole = joined_append ls (p ∷ rs) in
    let long = length_joined ls in
    joined_append ns (p ∷ rs) ∙ ap (λ w. w ++ (p ++ joined rs)) e
    ∙ put_left (joined ls) (p ++ joined rs) m f n (omega (arith, h, long))
    ∙ (λ i. (take f (sym whole i) ++ m) ++ drop (f + n) (sym whole i))

pub joined_right : {T : Type 0} (ls : List (List T)) (p : List T) (rs ns : List (List T)) (m : List T) (f g n : ℕ) → f ≡ (total ls + length p) + g → joined ns ≡ (take g (joined rs) ++ m) ++ drop (g + n) (joined rs) → joined (ls ++ p ∷ ns) ≡ (take f (joined (ls ++ p ∷ rs)) ++ m) ++ drop (f + n) (joined (ls ++ p ∷ rs))
joined_right ls p rs ns m f g n h e =
    let whole : joined (ls ++ p ∷ rs) ≡ (joined ls ++ p) ++ joined rs = joined_append ls (p ∷ rs) ∙ sym (append_assoc (joined ls) p (joined rs)) in
    let long = length_joined ls in
    let front = length-append (joined ls) p in
    joined_append ls (p ∷ ns) ∙ sym (append_assoc (joined ls) p (joined ns)) ∙ ap (λ w. (joined ls ++ p) ++ w) e
    ∙ put_right (joined ls ++ p) (joined rs) m f g n (omega (arith, h, long, front))
    ∙ (λ i. (take f (sym whole i) ++ m) ++ drop (f + n) (sym whole i))

pub joined_here : {T : Type 0} (ls : List (List T)) (p q : List T) (rs : List (List T)) (m : List T) (f g n : ℕ) → f ≡ total ls + g → g + n ≤ length p → q ≡ (take g p ++ m) ++ drop (g + n) p → joined (ls ++ q ∷ rs) ≡ (take f (joined (ls ++ p ∷ rs)) ++ m) ++ drop (f + n) (joined (ls ++ p ∷ rs))
joined_here ls p q rs m f g n h i e =
    let whole = joined_append ls (p ∷ rs) in
    let long = length_joined ls in
    joined_append ls (q ∷ rs) ∙ ap (λ w. joined ls ++ (w ++ joined rs)) e
    ∙ ap (λ w. joined ls ++ w) (put_left p (joined rs) m g n i)
    ∙ put_right (joined ls) (p ++ joined rs) m f g n (omega (arith, h, long))
    ∙ (λ j. (take f (sym whole j) ++ m) ++ drop (f + n) (sym whole j))

pub put_length : {A : Type 0} (w r m : List A) (f n : ℕ) → r ≡ (take f w ++ m) ++ drop (f + n) w → f + n ≤ length w → length r + n ≡ length w + length m
put_length w r m f n e h =
    let whole = ap length e ∙ length-append (take f w ++ m) (drop (f + n) w) in
    let front = length-append (take f w) m in
    let first = length-take-le f w (omega (arith, h)) in
    let last = length-drop (f + n) w in
    omega (arith, whole, front, first, last, h)

pub put_count : {T : Type 0} (ws rs : List (List T)) (m : List T) (f n : ℕ) → joined rs ≡ (take f (joined ws) ++ m) ++ drop (f + n) (joined ws) → f + n ≤ total ws → total rs + n ≡ total ws + length m
put_count ws rs m f n e h =
    let w = length_joined ws in
    let r = length_joined rs in
    let l = put_length (joined ws) (joined rs) m f n e (omega (arith, w, h)) in
    omega (arith, w, r, l)

-- ---- in one piece

pub taken_one : {A : Type 0} (xs : List A) (a k : ℕ) → a + (k + 1) ≤ length xs → take a (take a xs ++ drop (a + k) xs) ++ drop (suc a) (take a xs ++ drop (a + k) xs) ≡ take a xs ++ drop (a + (k + 1)) xs
taken_one xs a k h =
    let n = length-take-le a xs (omega (arith, h)) in
    let front = take_at (take a xs) (drop (a + k) xs) a n in
    let past : suc a ≡ length (take a xs) + 1 = omega (arith, n) in
    let back = ap (λ j. drop j (take a xs ++ drop (a + k) xs)) past ∙ drop-append-add (take a xs) (drop (a + k) xs) 1 ∙ drop-drop 1 (a + k) xs in
    let end : a + k + 1 ≡ a + (k + 1) = omega arith in
    (λ i. front i ++ back i) ∙ ap (λ j. take a xs ++ drop j xs) end

pub insert_front : {A : Type 0} (xs : List A) (x : A) (a : ℕ) → a ≤ length xs → take a (take a xs ++ x ∷ drop a xs) ≡ take a xs
insert_front xs x a h = take_at (take a xs) (x ∷ drop a xs) a (length-take-le a xs h)

pub insert_rest : {A : Type 0} (xs : List A) (x : A) (a : ℕ) → a ≤ length xs → drop a (take a xs ++ x ∷ drop a xs) ≡ x ∷ drop a xs
insert_rest xs x a h = drop_at (take a xs) (x ∷ drop a xs) a (length-take-le a xs h)
