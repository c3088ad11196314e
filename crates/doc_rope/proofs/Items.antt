-- Where an item, and a run of items, stands in its pieces.
use Rattle.std.proofs.Common.{◌≡◌, ℕ, zero, suc, ◌+◌, ◌-◌, ◌<◌, ◌≤◌, List, [], ◌∷◌, ◌++◌, length, take, drop, refl, sym, ap, ◌∙◌, append_assoc, arith, slice_get}
use Rattle.std.proofs.lemmas.List.{take-append-drop, drop-append-le, take_at, length-drop, length-append, drop-drop, drop-take}
use Rattle.std.proofs.Math.Seq.{drop-append-add}
use Rattle.doc_items.specs.declared.item.Item.{Item}
use Rattle.doc_rope.specs.Pieces.{total, joined}
use Rattle.doc_rope.specs.Runs.{IsRun}
use Rattle.doc_rope.proofs.Laws.{joined_append, length_joined}

get_left : {T : Type 0} (xs ys : List T) (k : ℕ) → k < length xs → slice_get (xs ++ ys) k ≡ slice_get xs k
get_left [] ys k h = absurd (omega (arith, h))
get_left (x ∷ xs) ys zero h = refl
get_left (x ∷ xs) ys (suc k) h = get_left xs ys k (omega (arith, h))

get_right : {T : Type 0} (xs ys : List T) (k j : ℕ) → k ≡ length xs + j → slice_get (xs ++ ys) k ≡ slice_get ys j
get_right [] ys k j e = ap (slice_get ys) (omega (arith, e))
get_right (x ∷ xs) ys zero j e = absurd (omega (arith, e))
get_right (x ∷ xs) ys (suc k) j e = get_right xs ys k j (omega (arith, e))

pub at_left : {T : Type 0} (ls : List (List T)) (p : List T) (rs : List (List T)) (k : ℕ) → k < total ls → slice_get (joined (ls ++ p ∷ rs)) k ≡ slice_get (joined ls) k
at_left ls p rs k h = let n = length_joined ls in ap (λ w. slice_get w k) (joined_append ls (p ∷ rs)) ∙ get_left (joined ls) (p ++ joined rs) k (omega (arith, n, h))

pub at_middle : {T : Type 0} (ls : List (List T)) (p : List T) (rs : List (List T)) (k j : ℕ) → k ≡ total ls + j → j < length p → slice_get (joined (ls ++ p ∷ rs)) k ≡ slice_get p j
at_middle ls p rs k j h i = let n = length_joined ls in ap (λ w. slice_get w k) (joined_append ls (p ∷ rs)) ∙ get_right (joined ls) (p ++ joined rs) k j (omega (arith, n, h)) ∙ get_left p (joined rs) j i

pub at_right : {T : Type 0} (ls : List (List T)) (p : List T) (rs : List (List T)) (k : ℕ) → total ls ≤ k → length p ≤ k - total ls → slice_get (joined (ls ++ p ∷ rs)) k ≡ slice_get (joined rs) (k - total ls - length p)
at_right ls p rs k h i = let n = length_joined ls in ap (λ w. slice_get w k) (joined_append ls (p ∷ rs)) ∙ get_right (joined ls) (p ++ joined rs) k (k - total ls) (omega (arith, n, h)) ∙ get_right p (joined rs) (k - total ls) (k - total ls - length p) (omega (arith, i))

-- ---- a run from a place on

run_longer : {T : Type 0} (r xs ys : List T) → take (length r) xs ≡ r → take (length r) (xs ++ ys) ≡ r
run_longer r xs ys e =
    let rest = drop (length r) xs in
    ap (λ w. take (length r) (w ++ ys)) (sym (take-append-drop (length r) xs) ∙ ap (λ w. w ++ rest) e)
    ∙ ap (take (length r)) (append_assoc r rest ys)
    ∙ take_at r (rest ++ ys) (length r) refl

drop_past : {T : Type 0} (xs ys : List T) (k j : ℕ) → k ≡ length xs + j → drop k (xs ++ ys) ≡ drop j ys
drop_past xs ys k j e = ap (λ n. drop n (xs ++ ys)) e ∙ drop-append-add xs ys j

pub run_left : {T : Type 0} (ls : List (List T)) (p : List T) (rs : List (List T)) (k : ℕ) (r : List T) → k < total ls → take (length r) (drop k (joined ls)) ≡ r → take (length r) (drop k (joined (ls ++ p ∷ rs))) ≡ r
run_left ls p rs k r h e =
    let n = length_joined ls in
    ap (λ w. take (length r) (drop k w)) (joined_append ls (p ∷ rs))
    ∙ ap (take (length r)) (drop-append-le k (joined ls) (p ++ joined rs) (omega (arith, n, h)))
    ∙ run_longer r (drop k (joined ls)) (p ++ joined rs) e

pub run_middle : {T : Type 0} (ls : List (List T)) (p : List T) (rs : List (List T)) (k j : ℕ) (r : List T) → k ≡ total ls + j → j < length p → r ≡ drop j p → take (length r) (drop k (joined (ls ++ p ∷ rs))) ≡ r
run_middle ls p rs k j r h i e =
    let n = length_joined ls in
    ap (λ w. take (length r) (drop k w)) (joined_append ls (p ∷ rs))
    ∙ ap (take (length r)) (drop_past (joined ls) (p ++ joined rs) k j (omega (arith, n, h)) ∙ drop-append-le j p (joined rs) (omega (arith, i)) ∙ ap (λ w. w ++ joined rs) (sym e))
    ∙ take_at r (joined rs) (length r) refl

pub run_right : {T : Type 0} (ls : List (List T)) (p : List T) (rs : List (List T)) (k : ℕ) (r : List T) → total ls ≤ k → length p ≤ k - total ls → take (length r) (drop (k - total ls - length p) (joined rs)) ≡ r → take (length r) (drop k (joined (ls ++ p ∷ rs))) ≡ r
run_right ls p rs k r h i e =
    let n = length_joined ls in
    ap (λ w. take (length r) (drop k w)) (joined_append ls (p ∷ rs))
    ∙ ap (take (length r)) (drop_past (joined ls) (p ++ joined rs) k (k - total ls) (omega (arith, n, h)) ∙ drop_past p (joined rs) (k - total ls) (k - total ls - length p) (omega (arith, i)))
    ∙ e

pub run_inside : {T : Type 0} (xs r : List T) (k : ℕ) → take (length r) (drop k xs) ≡ r → 0 < length r → k + length r ≤ length xs
run_inside xs r k e h =
    let whole = ap length (sym (take-append-drop (length r) (drop k xs)) ∙ ap (λ w. w ++ drop (length r) (drop k xs)) e) ∙ length-append r (drop (length r) (drop k xs)) in
    let left = length-drop k xs in
    omega (arith, whole, left, h)

pub run_further : (items run : List Item) (p k : ℕ) → take (length run) (drop p items) ≡ run → k < length run → IsRun items (p + k) (drop k run)
run_further items run p k e h =
    let m = length run - k in
    let n = length-drop k run in
    let whole : k + m ≡ length run = omega (arith, h) in (
      ap (λ w. take w (drop (p + k) items)) n
          ∙ ap (take m) (sym (drop-drop k p items))
          ∙ sym (drop-take k m (drop p items))
          ∙ ap (λ w. drop k (take w (drop p items))) whole
          ∙ ap (drop k) e,
      λ z. absurd (omega (arith, n, z, h)),
    )
