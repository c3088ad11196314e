-- Items inserted one by one.
use Rattle.std.proofs.Common.{◌≡◌, ◌+◌, ◌≤◌, ℕ, List, [], ◌∷◌, ◌++◌, length, map, drop, refl, sym, ap, ◌∙◌, arith, slice_get, Some, append_assoc, append-nil}
use Rattle.doc_items.specs.Limits.{max_count}
use Rattle.doc_items.specs.Maps.{Key, Map}
use Rattle.doc_items.specs.declared.item.Content.{Content}
use Rattle.doc_items.specs.declared.item.Item.{Item}
use Rattle.doc_items.specs.Changes.{ChangeSet}
use Rattle.change_view.specs.Sets.{from_absent}
use Rattle.doc_op.specs.Actions.{Action, Ins, insertion}
use Rattle.doc_op.specs.Lengths.{output_len}
use Rattle.doc_op.proofs.Lengths.{output_len-append}
use Rattle.op_build.proofs.Insertions.{inserted_items}

-- one content with its annotations
pub one_inserted : (m : Map Key) (c : Content) → map (insertion (from_absent m)) (c ∷ []) ≡ Ins (record { content = c; notes = m }) ∷ []
one_inserted m c = inserted_items m (c ∷ [])

-- an item is added with its content and its annotations
pub item_added : (out new : List Action) (u : ChangeSet) (x : Item) (c : Content) → u ≡ from_absent x.notes → x.content ≡ c → new ≡ out ++ map (insertion u) (c ∷ []) → new ≡ out ++ Ins x ∷ []
item_added out new u x c e f h = h ∙ (λ i. out ++ map (insertion (e i)) (c ∷ [])) ∙ ap (λ l. out ++ l) (one_inserted x.notes c) ∙ ap (λ d. out ++ Ins (record { content = d; notes = x.notes }) ∷ []) (sym f)

items_len : (items : List Item) → output_len (map Ins items) ≡ length items
items_len [] = refl
items_len (x ∷ items) = omega (arith, items_len items)

some_same : (x y : Item) → Some x ≡ Some y → x ≡ y
some_same x y e = cc

next_len : (left : List Item) (x : Item) → Some x ≡ slice_get left 0 → 1 ≤ length left
next_len [] x e = absurd cc
next_len (y ∷ left) x e = omega arith

-- what is inserted and what is left make up the document
pub next_inserted : (out : List Action) (left items : List Item) (x : Item) → out ++ map Ins left ≡ map Ins items → Some x ≡ slice_get left 0 → (out ++ Ins x ∷ []) ++ map Ins (drop 1 left) ≡ map Ins items
next_inserted out [] items x h e = absurd cc
next_inserted out (y ∷ left) items x h e = append_assoc out (Ins x ∷ []) (map Ins left) ∙ ap (λ z. out ++ Ins z ∷ map Ins left) (some_same x y e) ∙ h

-- there is room for one more
pub has_room : (out : List Action) (left items : List Item) (n : ℕ) (x : Item) → out ++ map Ins left ≡ map Ins items → Some x ≡ slice_get left 0 → n ≡ length items → n ≤ max_count → output_len out + 1 ≤ max_count
has_room out left items n x h e long bound = omega (arith, long, output_len-append out (map Ins left), ap output_len h, items_len left, items_len items, next_len left x e, bound)

pub all_inserted : (out : List Action) (left items : List Item) → out ++ map Ins left ≡ map Ins items → length left ≡ 0 → out ≡ map Ins items
all_inserted out [] items h e = sym (append-nil out) ∙ h
all_inserted out (y ∷ left) items h e = absurd cc
