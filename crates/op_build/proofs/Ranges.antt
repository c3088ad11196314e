-- Ranges, item by item.
use Rattle.std.proofs.Common.{◌≡◌, ◌<◌, ◌+◌, ◌-◌, ℕ, zero, suc, List, [], ◌∷◌, ◌++◌, ◌≤◌, length, map, append_assoc, take, drop, sym, ap, ◌∙◌, arith, Some, slice_get, drop-cons, add-one}
use Rattle.std.proofs.lemmas.Option.{slice_get_within, get_or_from_slice_get}
use Rattle.std.proofs.lemmas.List.{length-take, length-drop}
use Rattle.doc_items.specs.declared.item.Item.{Item}
use Rattle.doc_op.specs.Actions.{Action}
use Rattle.op_build.specs.Edits.{range}

drop_first : (items : List Item) (from : ℕ) (x : Item) → slice_get items from ≡ Some x → drop from items ≡ x ∷ drop (from + 1) items
drop_first items from x e =
    drop-cons items from x (slice_get_within items from x e) ∙ (λ k. get_or_from_slice_get items from x x e k ∷ drop (sym (add-one from) k) items)

pub first_in_range : (items : List Item) (from count : ℕ) (x : Item) → 0 < count → slice_get items from ≡ Some x → range items from count ≡ x ∷ range items (from + 1) (count - 1)
first_in_range items from zero x h e = absurd (omega (arith, h))
first_in_range items from (suc n) x h e =
    let same : n ≡ suc n - 1 = omega arith in
    ap (take (suc n)) (drop_first items from x e) ∙ ap (λ k. x ∷ take k (drop (from + 1) items)) same

pub length_range : (items : List Item) (from count : ℕ) → from + count ≤ length items → length (range items from count) ≡ count
length_range items from count h = omega (arith, h, length-take count (drop from items), length-drop from items)

-- an action on one item more of a range
pub next_in_range : (act : Item → Action) (out next before : List Action) (whole here behind : List Item) (i : Item) → out ++ map act here ≡ before ++ map act whole → here ≡ i ∷ behind
    → next ≡ out ++ (act i ∷ []) → next ++ map act behind ≡ before ++ map act whole
next_in_range act out next before whole here behind i is h e = ap (λ x. x ++ map act behind) e ∙ append_assoc out (act i ∷ []) (map act behind) ∙ ap (λ x. out ++ map act x) (sym h) ∙ is
