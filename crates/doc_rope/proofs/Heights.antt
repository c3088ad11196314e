-- How many pieces a tree of a height has at least, and so how high a tree of so many pieces is at most.
use Rattle.std.proofs.Common.{◌≡◌, ℕ, zero, suc, ◌+◌, ◌-◌, ◌^◌, ◌<◌, ◌≤◌, ◌==◌, max, Bool, true, false, ◌&&◌, List, ◌∷◌, ◌++◌, length, nat_le, nat_lt, refl, sym, ap, ◌∙◌, subst, arith, length-append}
use Rattle.std.proofs.lemmas.Bool.{ltb-true, leb-true, leb-false, eqb-true, lt-ltb, le-leb, and_parts, and_from}
use Rattle.std.proofs.Math.Nat.{pow-suc}
use Rattle.doc_rope.proofs.Laws.{total_append}
use Rattle.doc_rope.proofs.Shapes.{shape_same}
use Rattle.doc_items.specs.declared.item.Item.{Item}
use Rattle.doc_rope.specs.declared.shape.Shape.{Shape}
use Rattle.doc_rope.specs.declared.tree.Tree.{Tree}
use Rattle.doc_rope.specs.declared.tree.Tree.TheVariants.{Empty, Fork'}
use Rattle.doc_rope.specs.Heights.{height, near, least}
use Rattle.doc_rope.specs.Shapes.{shape_of, same_shape}
use Rattle.doc_rope.specs.Pieces.{pieces, total, joined, is_level, is_sound, InPieces}

-- ---- least

least_more : (h : ℕ) → least h + 1 ≤ least (suc h)
unfolding least
least_more zero = omega arith
least_more (suc zero) = omega arith
least_more (suc (suc h)) = omega arith

least_add : (d a b : ℕ) → b ≡ d + a → least a ≤ least b
least_add zero a b e =
    let f : a ≡ b = omega (arith, e) in
    subst (λ (n : ℕ). least a ≤ least n) f (omega arith)
least_add (suc d) a b e =
    let f : suc (d + a) ≡ b = omega (arith, e) in
    let m = least_add d a (d + a) refl in
    let n = least_more (d + a) in
    subst (λ (n : ℕ). least a ≤ least n) f (omega (arith, m, n))

least_up : (a b : ℕ) → a ≤ b → least a ≤ least b
least_up a b h = least_add (b - a) a b (omega (arith, h))

-- two sides have together as many pieces as a tree over them has at least, less its own

sides_same : (a : ℕ) → least (suc a) ≤ (least a + least a) + 1
unfolding least
sides_same zero = omega arith
sides_same (suc zero) = omega arith
sides_same (suc (suc a)) = let m = least_up a (suc (suc a)) (omega arith) in omega (arith, m)

sides_one : (a : ℕ) → least (suc (suc a)) ≤ (least a + least (suc a)) + 1
unfolding least
sides_one zero = omega arith
sides_one (suc a) = let m = least_more a in omega (arith, m)

sides_two : (a : ℕ) → least (suc (suc (suc a))) ≤ (least a + least (suc (suc a))) + 1
unfolding least
sides_two a = omega arith

sides_by : (d a b : ℕ) → b ≡ d + a → d ≤ 2 → least (suc b) ≤ (least a + least b) + 1
sides_by zero a b e h =
    let f : a ≡ b = omega (arith, e) in
    subst (λ (n : ℕ). least (suc n) ≤ (least a + least n) + 1) f (sides_same a)
sides_by (suc zero) a b e h =
    let f : suc a ≡ b = omega (arith, e) in
    subst (λ (n : ℕ). least (suc n) ≤ (least a + least n) + 1) f (sides_one a)
sides_by (suc (suc zero)) a b e h =
    let f : suc (suc a) ≡ b = omega (arith, e) in
    subst (λ (n : ℕ). least (suc n) ≤ (least a + least n) + 1) f (sides_two a)
sides_by (suc (suc (suc d))) a b e h = absurd (omega (arith, h))

sides_up : (a b : ℕ) → a ≤ b → b ≤ a + 2 → least (suc b) ≤ (least a + least b) + 1
sides_up a b h k = sides_by (b - a) a b (omega (arith, h)) (omega (arith, h, k))

sides_pick : (a b : ℕ) (t : Bool) → nat_le a b ≡ t → a ≤ b + 2 → b ≤ a + 2 → least (max a b + 1) ≤ (least a + least b) + 1
sides_pick a b true e h k =
    let l = leb-true a b e in
    let m : suc b ≡ max a b + 1 = omega (arith, l) in
    subst (λ (n : ℕ). least n ≤ (least a + least b) + 1) m (sides_up a b l k)
sides_pick a b false e h k =
    let l = leb-false a b e in
    let m : suc a ≡ max a b + 1 = omega (arith, l) in
    let s = sides_up b a (omega (arith, l)) h in
    subst (λ (n : ℕ). least n ≤ (least a + least b) + 1) m (omega (arith, s))

sides_have : (a b : ℕ) → a ≤ b + 2 → b ≤ a + 2 → least (max a b + 1) ≤ (least a + least b) + 1
sides_have a b h k = sides_pick a b (nat_le a b) refl h k

-- ---- what a node says

pub record Level (len : ℕ) (left right : Tree) (kept : ℕ) : Type 0 where
  pub some : 0 < len
  pub kept_is : kept ≡ max (height left) (height right) + 1
  pub left_near : height left ≤ height right + 2
  pub right_near : height right ≤ height left + 2
  pub left_sound : is_sound left ≡ true
  pub right_sound : is_sound right ≡ true

level_of : (left : Tree) (piece : List Item) (right : Tree) (count : ℕ) (shape : Shape) (kept : ℕ) → (count == total (pieces left ++ piece ∷ pieces right) && same_shape shape (shape_of (joined (pieces left ++ piece ∷ pieces right))) && is_level (length piece) (height left) (height right) kept && is_sound left && is_sound right) ≡ true → Level (length piece) left right kept
level_of left piece right count shape kept h =
    let len = length piece in
    let all = pieces left ++ piece ∷ pieces right in
    let a = and_parts _ (is_sound right) h in
    let b = and_parts _ (is_sound left) a.0 in
    let c = and_parts (count == total all && same_shape shape (shape_of (joined all))) (is_level len (height left) (height right) kept) b.0 in
    let d = and_parts (nat_lt 0 len && kept == max (height left) (height right) + 1) (near (height left) (height right)) c.1 in
    let e = and_parts (nat_lt 0 len) (kept == max (height left) (height right) + 1) d.0 in
    let f = and_parts (nat_le (height left) (height right + 2)) (nat_le (height right) (height left + 2)) d.1 in
    record {
      some = ltb-true 0 len e.0;
      kept_is = eqb-true kept (max (height left) (height right) + 1) e.1;
      left_near = leb-true (height left) (height right + 2) f.0;
      right_near = leb-true (height right) (height left + 2) f.1;
      left_sound = b.1;
      right_sound = a.1;
    }

pub parts_of : (left : Tree) (piece : List Item) (right : Tree) (count : ℕ) (shape : Shape) (kept : ℕ) → (count == total (pieces left ++ piece ∷ pieces right) && same_shape shape (shape_of (joined (pieces left ++ piece ∷ pieces right))) && is_level (length piece) (height left) (height right) kept && is_sound left && is_sound right) ≡ true → (0 < length piece) × (height left ≤ height right + 2) × (height right ≤ height left + 2) × (is_sound left ≡ true) × (is_sound right ≡ true)
parts_of left piece right count shape kept h = let l = level_of left piece right count shape kept h in (l.some, l.left_near, l.right_near, l.left_sound, l.right_sound)

same_number : (n : ℕ) → (n == n) ≡ true
same_number n = grind arith

level_from : (len left right kept : ℕ) → 0 < len → kept ≡ max left right + 1 → left ≤ right + 2 → right ≤ left + 2 → is_level len left right kept ≡ true
level_from len left right kept some is l r =
    let a = and_from (nat_lt 0 len) (kept == max left right + 1) (lt-ltb 0 len some) (ap (λ n. kept == n) (sym is) ∙ same_number kept) in
    and_from (nat_lt 0 len && kept == max left right + 1) (near left right) a (and_from (nat_le left (right + 2)) (nat_le right (left + 2)) (le-leb left (right + 2) l) (le-leb right (left + 2) r))

pub sound_from : (left : Tree) (piece : List Item) (right : Tree) (count : ℕ) (shape : Shape) (kept : ℕ) → count ≡ total (pieces left ++ piece ∷ pieces right) → shape ≡ shape_of (joined (pieces left ++ piece ∷ pieces right)) → 0 < length piece → kept ≡ max (height left) (height right) + 1 → height left ≤ height right + 2 → height right ≤ height left + 2 → is_sound left ≡ true → is_sound right ≡ true → (count == total (pieces left ++ piece ∷ pieces right) && same_shape shape (shape_of (joined (pieces left ++ piece ∷ pieces right))) && is_level (length piece) (height left) (height right) kept && is_sound left && is_sound right) ≡ true
sound_from left piece right count shape kept e f some is l r u v =
    let all = pieces left ++ piece ∷ pieces right in
    let counted : (count == total all) ≡ true = ap (λ n. count == n) (sym e) ∙ same_number count in
    let a = and_from (count == total all) (same_shape shape (shape_of (joined all))) counted (shape_same shape (shape_of (joined all)) f) in
    let b = and_from (count == total all && same_shape shape (shape_of (joined all))) (is_level (length piece) (height left) (height right) kept) a (level_from (length piece) (height left) (height right) kept some is l r) in
    let c = and_from (count == total all && same_shape shape (shape_of (joined all)) && is_level (length piece) (height left) (height right) kept) (is_sound left) b u in
    and_from (count == total all && same_shape shape (shape_of (joined all)) && is_level (length piece) (height left) (height right) kept && is_sound left) (is_sound right) c v

-- ---- a tree has as many

pub has_least : (t : Tree) → is_sound t ≡ true → least (height t) ≤ length (pieces t)
unfolding least
has_least Empty s = omega arith
has_least (Fork' p left piece right count shape kept) s =
    let l : Level (length piece) left right kept = level_of left piece right count shape kept s in
    let x = has_least left l.left_sound in
    let y = has_least right l.right_sound in
    let z = sides_have (height left) (height right) l.left_near l.right_near in
    let n = length-append (pieces left) (piece ∷ pieces right) in
    omega (arith, x, y, z, n)

-- and no piece is empty
few_pieces : (t : Tree) → is_sound t ≡ true → length (pieces t) ≤ total (pieces t)
few_pieces Empty s = omega arith
few_pieces (Fork' p left piece right count shape kept) s =
    let l : Level (length piece) left right kept = level_of left piece right count shape kept s in
    let x = few_pieces left l.left_sound in
    let y = few_pieces right l.right_sound in
    let n = length-append (pieces left) (piece ∷ pieces right) in
    let m = total_append (pieces left) (piece ∷ pieces right) in
    omega (arith, x, y, n, m, l.some)

-- ---- two levels more are twice the pieces

least_twice : (h : ℕ) → (least h + least h) + 1 ≤ least (suc (suc h))
unfolding least
least_twice zero = omega arith
least_twice (suc zero) = omega arith
least_twice (suc (suc zero)) = omega arith
least_twice (suc (suc (suc h))) = let m = least_more h in omega (arith, m)

least_power : (k : ℕ) → 2 ^ k ≤ least (k + k) + 1
least_power zero = omega arith
least_power (suc k) =
    let e : suc (suc (k + k)) ≡ suc k + suc k = omega arith in
    let m = least_power k in
    let w = least_twice (k + k) in
    let p = pow-suc 2 k in
    subst (λ (n : ℕ). 2 ^ suc k ≤ least n + 1) e (omega (arith, m, w, p))

least_above : (k h : ℕ) → k + k < h → 2 ^ k ≤ least h
least_above k h l =
    let m = least_power k in
    let n = least_more (k + k) in
    let o = least_up (suc (k + k)) h (omega (arith, l)) in
    omega (arith, m, n, o)

not_above : (k h : ℕ) (t : Bool) → nat_le h (k + k) ≡ t → least h < 2 ^ k → h ≤ k + k
not_above k h true e l = leb-true h (k + k) e
not_above k h false e l = let m = least_above k h (leb-false h (k + k) e) in absurd (omega (arith, m, l))

-- fewer than 2 ^ k pieces are at most 2 * k deep
pub deep_pieces : (t : Tree) (k : ℕ) → is_sound t ≡ true → length (pieces t) < 2 ^ k → height t ≤ k + k
deep_pieces t k s l = let m = has_least t s in not_above k (height t) (nat_le (height t) (k + k)) refl (omega (arith, m, l))

-- and so fewer than 2 ^ k items
pub deep_items : (t : Tree) (k : ℕ) → is_sound t ≡ true → total (pieces t) < 2 ^ k → height t ≤ k + k
deep_items t k s l = let m = few_pieces t s in deep_pieces t k s (omega (arith, m, l))

-- a tree whose count is a `usize`
pub not_deep : (t : Tree) → is_sound t ≡ true → total (pieces t) < 18446744073709551616 → height t ≤ 128
not_deep t s l = deep_items t 64 s l

-- and a rope
pub rope_deep : (t : Tree) → InPieces t → height t ≤ 106
rope_deep t i = deep_items t 53 i.sound (omega (arith, i.bound))
