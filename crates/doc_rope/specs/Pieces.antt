-- What a tree of pieces means, and which pieces a rope keeps.
--     pieces       the pieces from left to right
--     total        how many items stand in some pieces
--     joined       the items of some pieces, in order
--     is_level     no piece is empty, the height that is kept is right, and the heights of the sides are near
--     IsSound      each count is right, and each shape, and each node is level
--     add_last     one more piece at the end, put into the last one where both fit into one
--     sized        a piece has 1 to 128 items
--     apart        a piece and the next one wouldn't fit into one
--     IsPacked     each piece is sized and apart from the next
--     last_len     how many items the last piece has, or a given number where there is no piece
--     first_len    how many items the first piece has, or a given number where there is no piece
--     IsBetween    some pieces are packed where a piece of so many items stands before them, and one of so many after them; where
--                  none stands there it counts as one of 128, since nothing fits into one with that
--     glued        two packed lists of pieces as one
--     IsSpare      a node without items
--     InPieces     what holds of each rope: a sound tree of packed pieces with at most max_count items
use Rattle.std.specs.Prelude.{◌≡◌, ℕ, ◌+◌, ◌≤◌, max, Bool, true, cond, ◌&&◌, List, [], ◌∷◌, ◌++◌, length, ◌==◌, nat_le, nat_lt}
use Rattle.doc_items.specs.Limits.{max_count}
use Rattle.doc_items.specs.declared.item.Item.{Item}
use Rattle.doc_rope.specs.Heights.{height, near}
use Rattle.doc_rope.specs.Shapes.{shape_of, same_shape}
use Rattle.doc_rope.specs.declared.tree.Node.{Node}
use Rattle.doc_rope.specs.declared.tree.Tree.{Tree}
use Rattle.doc_rope.specs.declared.tree.Tree.TheVariants.{Empty, Fork'}

abbrev pub pieces : Tree → List (List Item)
pieces Empty = []
pieces (Fork' p left piece right count shape kept) = pieces left ++ piece ∷ pieces right

abbrev pub total : {T : Type 0} → List (List T) → ℕ
total [] = 0
total (p ∷ ps) = length p + total ps

abbrev pub joined : {T : Type 0} → List (List T) → List T
joined [] = []
joined (p ∷ ps) = p ++ joined ps

abbrev pub is_level : ℕ → ℕ → ℕ → ℕ → Bool
is_level len left right kept = nat_lt 0 len && kept == max left right + 1 && near left right

abbrev pub is_sound : Tree → Bool
is_sound Empty = true
is_sound (Fork' p left piece right count shape kept) = count == total (pieces left ++ piece ∷ pieces right)
    && same_shape shape (shape_of (joined (pieces left ++ piece ∷ pieces right)))
    && is_level (length piece) (height left) (height right) kept && is_sound left && is_sound right

abbrev pub IsSound : Tree → Type 0
IsSound t = is_sound t ≡ true

abbrev pub add_last : {T : Type 0} → List (List T) → List T → List (List T)
add_last [] q = q ∷ []
add_last (p ∷ []) q = cond (nat_le (length p + length q) 128) ((p ++ q) ∷ []) (p ∷ q ∷ [])
add_last (p ∷ r ∷ ps) q = p ∷ add_last (r ∷ ps) q

abbrev pub sized : {T : Type 0} → List T → Bool
sized p = nat_lt 0 (length p) && nat_le (length p) 128

abbrev pub apart : {T : Type 0} → List T → List (List T) → Bool
apart p [] = true
apart p (q ∷ qs) = nat_lt 128 (length p + length q)

abbrev pub packed : {T : Type 0} → List (List T) → Bool
packed [] = true
packed (p ∷ ps) = sized p && apart p ps && packed ps

abbrev pub IsPacked : {T : Type 0} → List (List T) → Type 0
IsPacked ps = packed ps ≡ true

abbrev pub last_len : {T : Type 0} → ℕ → List (List T) → ℕ
last_len a [] = a
last_len a (p ∷ ps) = last_len (length p) ps

abbrev pub first_len : {T : Type 0} → List (List T) → ℕ → ℕ
first_len [] b = b
first_len (p ∷ ps) b = length p

abbrev pub between : {T : Type 0} → ℕ → List (List T) → ℕ → Bool
between a [] b = nat_lt 128 (a + b)
between a (p ∷ ps) b = sized p && nat_lt 128 (a + length p) && between (length p) ps b

abbrev pub IsBetween : {T : Type 0} → ℕ → List (List T) → ℕ → Type 0
IsBetween a ps b = between a ps b ≡ true

-- the first piece of the second list may go into the last of the first
abbrev pub glued : {T : Type 0} → List (List T) → List (List T) → List (List T)
glued xs [] = xs
glued xs (q ∷ ys) = add_last xs q ++ ys

abbrev pub IsSpare : Node → Type 0
IsSpare n = n.piece ≡ []

pub record InPieces (t : Tree) : Type 0 where
  pub sound : IsSound t
  pub packed : IsPacked (pieces t)
  pub bound : total (pieces t) ≤ max_count
