-- Laws of packed pieces between two others, of which only the number of items is known.
use Rattle.std.proofs.Common.{◌≡◌, ℕ, ◌+◌, ◌<◌, ◌≤◌, true, List, [], ◌∷◌, ◌++◌, length, refl, sym, ap, ◌∙◌, arith}
use Rattle.std.proofs.lemmas.Bool.{ltb-true, lt-ltb, le-leb, and_parts, and_from}
use Rattle.doc_rope.specs.Pieces.{sized, apart, packed, last_len, first_len, between}
use Rattle.doc_rope.proofs.Seams.{packed_parts, packed_from}

parts : {T : Type 0} (a : ℕ) (p : List T) (ps : List (List T)) (b : ℕ) → between a (p ∷ ps) b ≡ true → (sized p ≡ true) × (128 < a + length p) × (between (length p) ps b ≡ true)
parts a p ps b h =
    let both = and_parts _ _ h in
    let own = and_parts _ _ both.0 in
    (own.0, ltb-true 128 (a + length p) own.1, both.1)

from_parts : {T : Type 0} (a : ℕ) (p : List T) (ps : List (List T)) (b : ℕ) → sized p ≡ true → 128 < a + length p → between (length p) ps b ≡ true → between a (p ∷ ps) b ≡ true
from_parts a p ps b s far h = and_from _ _ (and_from _ _ s (lt-ltb 128 (a + length p) far)) h

-- ---- a list in three

left_of : {T : Type 0} (a : ℕ) (ls : List (List T)) (p : List T) (rs : List (List T)) (b : ℕ) → between a (ls ++ p ∷ rs) b ≡ true → between a ls (length p) ≡ true
left_of a [] p rs b h = lt-ltb 128 (a + length p) (parts a p rs b h).1
left_of a (l ∷ ls) p rs b h =
    let t = parts a l (ls ++ p ∷ rs) b h in
    from_parts a l ls (length p) t.0 t.1 (left_of (length l) ls p rs b t.2)

here_of : {T : Type 0} (a : ℕ) (ls : List (List T)) (p : List T) (rs : List (List T)) (b : ℕ) → between a (ls ++ p ∷ rs) b ≡ true → (sized p ≡ true) × (between (length p) rs b ≡ true)
here_of a [] p rs b h = let t = parts a p rs b h in (t.0, t.2)
here_of a (l ∷ ls) p rs b h = here_of (length l) ls p rs b (parts a l (ls ++ p ∷ rs) b h).2

right_of : {T : Type 0} (a : ℕ) (ls : List (List T)) (p : List T) (rs : List (List T)) (b : ℕ) → between a (ls ++ p ∷ rs) b ≡ true → between (length p) rs b ≡ true
right_of a ls p rs b h = (here_of a ls p rs b h).1

of_three : {T : Type 0} (a : ℕ) (ls : List (List T)) (p : List T) (rs : List (List T)) (b : ℕ) → between a ls (length p) ≡ true → sized p ≡ true → between (length p) rs b ≡ true → between a (ls ++ p ∷ rs) b ≡ true
of_three a [] p rs b h s k = from_parts a p rs b s (ltb-true 128 (a + length p) h) k
of_three a (l ∷ ls) p rs b h s k =
    let t = parts a l ls (length p) h in
    from_parts a l (ls ++ p ∷ rs) b t.0 t.1 (of_three (length l) ls p rs b t.2 s k)

-- ---- one of the three changes

pub between_left : {T : Type 0} (a : ℕ) (w t ls ns : List (List T)) (p : List T) (rs : List (List T)) (b : ℕ) → w ≡ ls ++ p ∷ rs → t ≡ ns ++ p ∷ rs → between a w b ≡ true → between a ns (length p) ≡ true → between a t b ≡ true
between_left a w t ls ns p rs b e f h k =
    let is = here_of a ls p rs b (ap (λ n. between a n b) (sym e) ∙ h) in
    ap (λ n. between a n b) f ∙ of_three a ns p rs b k is.0 is.1

pub between_right : {T : Type 0} (a : ℕ) (w t ls : List (List T)) (p : List T) (rs ns : List (List T)) (b : ℕ) → w ≡ ls ++ p ∷ rs → t ≡ ls ++ p ∷ ns → between a w b ≡ true → between (length p) ns b ≡ true → between a t b ≡ true
between_right a w t ls p rs ns b e f h k =
    let whole = ap (λ n. between a n b) (sym e) ∙ h in
    ap (λ n. between a n b) f ∙ of_three a ls p ns b (left_of a ls p rs b whole) (here_of a ls p rs b whole).0 k

-- the piece before may have so few items
last_apart : {T : Type 0} (a : ℕ) (ps : List (List T)) (b c : ℕ) → between a ps b ≡ true → 128 < last_len a ps + c → between a ps c ≡ true
last_apart a [] b c h far = lt-ltb 128 (a + c) far
last_apart a (p ∷ ps) b c h far =
    let t = parts a p ps b h in
    from_parts a p ps c t.0 t.1 (last_apart (length p) ps b c t.2 far)

first_apart : {T : Type 0} (a c : ℕ) (ps : List (List T)) (b : ℕ) → between a ps b ≡ true → 128 < first_len ps b + c → between c ps b ≡ true
first_apart a c [] b h far = lt-ltb 128 (c + b) (omega (arith, far))
first_apart a c (p ∷ ps) b h far =
    let t = parts a p ps b h in
    from_parts c p ps b t.0 (omega (arith, far)) t.2

pub between_here : {T : Type 0} (a : ℕ) (w t ls : List (List T)) (p q : List T) (rs : List (List T)) (b n : ℕ) → w ≡ ls ++ p ∷ rs → t ≡ ls ++ q ∷ rs → between a w b ≡ true → 128 < last_len a ls + n → 128 < first_len rs b + n → n ≤ length q → 0 < length q → length q ≤ 128 → between a t b ≡ true
between_here a w t ls p q rs b n e f h before behind least some short =
    let whole = ap (λ n. between a n b) (sym e) ∙ h in
    let left = last_apart a ls (length p) (length q) (left_of a ls p rs b whole) (omega (arith, before, least)) in
    let right = first_apart (length p) (length q) rs b (right_of a ls p rs b whole) (omega (arith, behind, least)) in
    let s = and_from _ _ (lt-ltb 0 (length q) some) (le-leb (length q) 128 short) in
    ap (λ n. between a n b) f ∙ of_three a ls q rs b left s right

pub between_before : {T : Type 0} (a : ℕ) (w ls : List (List T)) (p : List T) (rs : List (List T)) (b : ℕ) → w ≡ ls ++ p ∷ rs → between a w b ≡ true → between a ls (length p) ≡ true
between_before a w ls p rs b e h = left_of a ls p rs b (ap (λ n. between a n b) (sym e) ∙ h)

pub between_after : {T : Type 0} (a : ℕ) (w ls : List (List T)) (p : List T) (rs : List (List T)) (b : ℕ) → w ≡ ls ++ p ∷ rs → between a w b ≡ true → between (length p) rs b ≡ true
between_after a w ls p rs b e h = right_of a ls p rs b (ap (λ n. between a n b) (sym e) ∙ h)

-- ---- nothing stands on either side

next_apart : {T : Type 0} (p : List T) (ps : List (List T)) → apart p ps ≡ true → 0 < length p → 128 < length p + first_len ps 128
next_apart p [] h some = omega (arith, some)
next_apart p (q ∷ ps) h some = ltb-true 128 (length p + length q) h

from_packed : {T : Type 0} (a : ℕ) (ps : List (List T)) → 128 < a + first_len ps 128 → packed ps ≡ true → between a ps 128 ≡ true
from_packed a [] far h = lt-ltb 128 (a + 128) far
from_packed a (p ∷ ps) far h =
    let t = packed_parts p ps h in
    let some = ltb-true 0 (length p) (and_parts _ _ t.0).0 in
    from_parts a p ps 128 t.0 far (from_packed (length p) ps (next_apart p ps t.1 some) t.2)

pub between_none : {T : Type 0} (ps : List (List T)) → packed ps ≡ true → between 128 ps 128 ≡ true
between_none [] h = refl
between_none (p ∷ ps) h =
    let some = ltb-true 0 (length p) (and_parts _ _ (packed_parts p ps h).0).0 in
    from_packed 128 (p ∷ ps) (omega (arith, some)) h

apart_next : {T : Type 0} (p : List T) (ps : List (List T)) (b : ℕ) → between (length p) ps b ≡ true → apart p ps ≡ true
apart_next p [] b h = refl
apart_next p (q ∷ ps) b h = lt-ltb 128 (length p + length q) (parts (length p) q ps b h).1

pub packed_between : {T : Type 0} (a : ℕ) (ps : List (List T)) (b : ℕ) → between a ps b ≡ true → packed ps ≡ true
packed_between a [] b h = refl
packed_between a (p ∷ ps) b h =
    let t = parts a p ps b h in
    packed_from p ps t.0 (apart_next p ps b t.2) (packed_between (length p) ps b t.2)

-- ---- how long the pieces at the ends are

pub last_of : {T : Type 0} (a : ℕ) (ls : List (List T)) (p : List T) (rs : List (List T)) → last_len a (ls ++ p ∷ rs) ≡ last_len (length p) rs
last_of a [] p rs = refl
last_of a (l ∷ ls) p rs = last_of (length l) ls p rs

pub first_of : {T : Type 0} (ls : List (List T)) (p : List T) (rs : List (List T)) (b : ℕ) → first_len (ls ++ p ∷ rs) b ≡ first_len ls (length p)
first_of [] p rs b = refl
first_of (l ∷ ls) p rs b = refl
