-- A snapshot's documents have no more items than were inserted.
use Rattle.std.proofs.Common.{◌≡◌, ℕ, ◌+◌, ◌≤◌, Bool, true, false, cond, List, [], ◌∷◌, length, Some, unwrap_or, ap, arith}
use Rattle.std.specs.FinMap.{entries, find, get-entries}
use Rattle.std.specs.Ordering.{nat_cmp, eq_by_cmp}
use Rattle.std.specs.Cmp.Lexicographic.{slice_cmp}
use Rattle.doc_items.specs.Maps.{Key}
use Rattle.doc_items.specs.declared.item.Item.{Item}
use Rattle.wavelet_op.specs.States.{State, document_of}
use Rattle.wavelet_state.specs.Parts.{count_all, item_count}
use Rattle.follower_rules.specs.Laws.{IsSmall}

found_small : (es : List (Key × List Item)) (k : Key) → length (unwrap_or (find (slice_cmp nat_cmp) k es) []) ≤ count_all es
found_small [] k = omega arith
found_small (e ∷ es) k = go (eq_by_cmp (slice_cmp nat_cmp) k e.0) (found_small es k)
  where
    go : (b : Bool) → length (unwrap_or (find (slice_cmp nat_cmp) k es) []) ≤ count_all es → length (unwrap_or (cond b (Some e.1) (find (slice_cmp nat_cmp) k es)) []) ≤ length e.1 + count_all es
    go true h = omega arith
    go false h = omega (arith, h)

pub items_small : (n : ℕ) (s : State) → item_count s.documents ≤ n → IsSmall n s
items_small n s h d =
    let e : length (document_of s d) ≡ length (unwrap_or (find (slice_cmp nat_cmp) d (entries s.documents)) []) = ap (λ o. length (unwrap_or o [])) (get-entries s.documents d) in
    omega (arith, e, found_small (entries s.documents) d, h)
