-- How deep a tree is.
--     height t     how many pieces stand on the longest way down
--     near a b     two heights differ by two at most
--     least h      how many pieces a tree of height h has at least, where the heights of each two sides are near
use Rattle.std.specs.Prelude.{ℕ, zero, suc, ◌+◌, max, Bool, ◌&&◌, nat_le}
use Rattle.doc_rope.specs.declared.tree.Tree.{Tree}
use Rattle.doc_rope.specs.declared.tree.Tree.TheVariants.{Empty, Fork'}

abbrev pub height : Tree → ℕ
height Empty = 0
height (Fork' p left piece right count shape kept) = max (height left) (height right) + 1

abbrev pub near : ℕ → ℕ → Bool
near a b = nat_le a (b + 2) && nat_le b (a + 2)

unfoldable pub least : ℕ → ℕ
least zero = 0
least (suc zero) = 1
least (suc (suc zero)) = 2
least (suc (suc (suc h))) = suc (least (suc (suc h)) + least h)
