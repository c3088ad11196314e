-- Laws of stretches replaced in a list.
use Rattle.std.proofs.Common.{◌≡◌, ℕ, ◌+◌, ◌≤◌, List, [], ◌∷◌, ◌++◌, length, take, drop, refl, ap, arith, length-append, length-drop}
use Rattle.std.proofs.lemmas.List.{length-take}
use Rattle.doc_items.specs.declared.item.Item.{Item}
use Rattle.doc_rope.specs.declared.replacement.Replacement.{Replacement}
use Rattle.doc_rope.specs.Replacements.{replaced, all_replaced, InOrder, taken_away, put_in}

pub replaced_last : (rs : List Replacement) (r : Replacement) (items : List Item) → all_replaced (rs ++ r ∷ []) items ≡ all_replaced rs (replaced r items)
replaced_last [] r items = refl
replaced_last (s ∷ rs) r items = ap (replaced s) (replaced_last rs r items)

pub put_in_last : (rs : List Replacement) (r : Replacement) → put_in (rs ++ r ∷ []) ≡ put_in rs + length r.items
put_in_last [] r = omega arith
put_in_last (s ∷ rs) r = let e = put_in_last rs r in omega (arith, e)

pub order_last : (p : ℕ) (rs : List Replacement) (r : Replacement) (n : ℕ) → InOrder p (rs ++ r ∷ []) n → InOrder p rs r.from × (r.from + r.count ≤ n)
order_last p [] r n h = h
order_last p (s ∷ rs) r n h = let t = order_last (s.from + s.count) rs r n h.1 in ((h.0, t.0), t.1)

pub order_more : (p : ℕ) (rs : List Replacement) (r : Replacement) (n : ℕ) → InOrder p rs r.from → r.from + r.count ≤ n → InOrder p (rs ++ r ∷ []) n
order_more p [] r n h k = (h, k)
order_more p (s ∷ rs) r n h k = (h.0, order_more (s.from + s.count) rs r n h.1 k)

pub order_further : (p : ℕ) (rs : List Replacement) (n m : ℕ) → InOrder p rs n → n ≤ m → InOrder p rs m
order_further p [] n m h k = omega (arith, h, k)
order_further p (s ∷ rs) n m h k = (h.0, order_further (s.from + s.count) rs n m h.1 k)

pub taken_inside : (p : ℕ) (rs : List Replacement) (n : ℕ) → InOrder p rs n → p + taken_away rs ≤ n
taken_inside p [] n h = omega (arith, h)
taken_inside p (s ∷ rs) n h = let t = taken_inside (s.from + s.count) rs n h.1 in omega (arith, h.0, t)

pub length_replaced : (r : Replacement) (items : List Item) → r.from + r.count ≤ length items → length (replaced r items) + r.count ≡ length items + length r.items
length_replaced r items h =
    let a = length-append (take r.from items ++ r.items) (drop (r.from + r.count) items) in
    let b = length-append (take r.from items) r.items in
    let c = length-take r.from items in
    let d = length-drop (r.from + r.count) items in
    grind (arith, a, b, c, d, h)

pub length_all : (p : ℕ) (rs : List Replacement) (items : List Item) → InOrder p rs (length items) → length (all_replaced rs items) + taken_away rs ≡ length items + put_in rs
length_all p [] items h = refl
length_all p (s ∷ rs) items h =
    let t = taken_inside (s.from + s.count) rs (length items) h.1 in
    let e = length_all (s.from + s.count) rs items h.1 in
    let one = length_replaced s (all_replaced rs items) (omega (arith, t, e)) in
    omega (arith, e, one)

-- so there is room for all on the way
pub room_for_all : (rs : List Replacement) (items : List Item) (n : ℕ) → InOrder 0 rs (length items) → length (all_replaced rs items) ≤ n → length items ≤ n → length items + put_in rs ≤ n + n
room_for_all rs items n h k l = let t = taken_inside 0 rs (length items) h in let e = length_all 0 rs items h in omega (arith, t, e, k, l)
