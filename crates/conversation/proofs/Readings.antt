-- Reading a manifest item by item.
--     inside_grows, passed_grows     by at most one for an item
--     next_item, take_next, more     one item more
--     tree_append, after_append, tree_next, after_next     items in two parts
--     balanced_step                  what is open is what a balanced manifest still ends
use Rattle.std.proofs.Common.{◌≡◌, ◌≤◌, ◌+◌, ◌-◌, ◌==◌, ℕ, zero, suc, drop, slice_get, Some, Bool, true, false, cond, List, [], ◌∷◌, ◌++◌, refl, sym, ap, ◌∙◌, arith, subst, ◌<◌, take, append_assoc, append-nil}
use Rattle.std.proofs.lemmas.Bool.Decides.{nat_tests, Decides-eqb}
use Rattle.doc_items.specs.Balance.{level, Closes, BalancedFrom}
use Rattle.doc_items.specs.declared.item.Content.{Content}
use Rattle.doc_items.specs.declared.item.Content.TheVariants.{Character, Start, End}
use Rattle.doc_items.specs.declared.item.Item.{Item}
use Rattle.doc_op.proofs.Applying.{no_value, same_Some}
use Rattle.conversation.specs.declared.node.Node.{Node}
use Rattle.conversation.specs.declared.reading.Reading.{Reading}
use Rattle.conversation.specs.Trees.{enters, opened, passed, closed, step_content, step, shown, tree, behind}

inside_of : (r : Reading) (c : Content) → (step_content r c).inside ≤ r.inside + 1
inside_of r (Character c) = omega arith
inside_of r (Start kind m) = go (enters r kind m)
  where
    go : (t : Bool) → (cond t (opened r) (passed r)).inside ≤ r.inside + 1
    go true = omega arith
    go false = omega arith
inside_of r End = go (r.passed == 0)
  where
    go : (t : Bool) → (cond {A = Reading} t (record { found = r.found; inside = r.inside - 1; passed = 0 }) (record { found = r.found; inside = r.inside; passed = r.passed - 1 })).inside ≤ r.inside + 1
    go true = omega arith
    go false = omega arith

passed_of : (r : Reading) (c : Content) → (step_content r c).passed ≤ r.passed + 1
passed_of r (Character c) = omega arith
passed_of r (Start kind m) = go (enters r kind m)
  where
    go : (t : Bool) → (cond t (opened r) (passed r)).passed ≤ r.passed + 1
    go true = omega arith
    go false = omega arith
passed_of r End = go (r.passed == 0)
  where
    go : (t : Bool) → (cond {A = Reading} t (record { found = r.found; inside = r.inside - 1; passed = 0 }) (record { found = r.found; inside = r.inside; passed = r.passed - 1 })).passed ≤ r.passed + 1
    go true = omega arith
    go false = omega arith

pub inside_grows : (r : Reading) (i : Item) → (step r i).inside ≤ r.inside + 1
inside_grows r i = inside_of r i.content

pub passed_grows : (r : Reading) (i : Item) → (step r i).passed ≤ r.passed + 1
passed_grows r i = passed_of r i.content

-- ---- items in two parts

pub next_item : (items : List Item) (k : ℕ) (i : Item) → slice_get items k ≡ Some i → drop k items ≡ i ∷ drop (k + 1) items
next_item [] k i e = no_value e
next_item (x ∷ items) zero i e = ap (λ z. z ∷ items) (same_Some e)
next_item (x ∷ items) (suc k) i e = let at : suc (k + 1) ≡ suc k + 1 = omega arith in next_item items k i e ∙ ap (λ z. i ∷ drop z (x ∷ items)) at

pub more : (ns ms : List Node) (r r' : Reading) (items : List Item) (k : ℕ) (i : Item) → slice_get items k ≡ Some i → ms ≡ ns ++ shown r i → r' ≡ step r i → ms ++ tree r' (drop (k + 1) items) ≡ ns ++ tree r (drop k items)
more ns ms r r' items k i e m s =
    (λ j. m j ++ tree (s j) (drop (k + 1) items)) ∙ append_assoc ns (shown r i) (tree (step r i) (drop (k + 1) items)) ∙ ap (λ z. ns ++ tree r z) (sym (next_item items k i e))

pub take_next : (items : List Item) (k : ℕ) (i : Item) → slice_get items k ≡ Some i → take (k + 1) items ≡ take k items ++ i ∷ []
take_next [] k i e = no_value e
take_next (x ∷ items) zero i e = ap (λ z. z ∷ []) (same_Some e)
take_next (x ∷ items) (suc k) i e = let at : suc k + 1 ≡ suc (k + 1) = omega arith in ap (λ z. take z (x ∷ items)) at ∙ ap (λ z. x ∷ z) (take_next items k i e)

pub tree_append : (r : Reading) (xs ys : List Item) → tree r (xs ++ ys) ≡ tree r xs ++ tree (behind r xs) ys
tree_append r [] ys = refl
tree_append r (x ∷ xs) ys = ap (λ z. shown r x ++ z) (tree_append (step r x) xs ys) ∙ sym (append_assoc (shown r x) (tree (step r x) xs) (tree (behind (step r x) xs) ys))

pub after_append : (r : Reading) (xs ys : List Item) → behind r (xs ++ ys) ≡ behind (behind r xs) ys
after_append r [] ys = refl
after_append r (x ∷ xs) ys = after_append (step r x) xs ys

pub after_next : (r : Reading) (items : List Item) (k : ℕ) (i : Item) → slice_get items k ≡ Some i → behind r (take (k + 1) items) ≡ step (behind r (take k items)) i
after_next r items k i e = ap (behind r) (take_next items k i e) ∙ after_append r (take k items) (i ∷ [])

pub tree_next : (r : Reading) (items : List Item) (k : ℕ) (i : Item) → slice_get items k ≡ Some i → tree r (take (k + 1) items) ≡ tree r (take k items) ++ shown (behind r (take k items)) i
tree_next r items k i e = ap (tree r) (take_next items k i e) ∙ tree_append r (take k items) (i ∷ []) ∙ ap (λ z. tree r (take k items) ++ z) (append-nil (shown (behind r (take k items)) i))

-- ---- balance

balanced_of : (r : Reading) (c : Content) (items : List Item) → Closes c (r.inside + r.passed) → BalancedFrom (level c (r.inside + r.passed)) items → BalancedFrom ((step_content r c).inside + (step_content r c).passed) items
balanced_of r (Character c) items k b = b
balanced_of r (Start kind m) items k b = go (enters r kind m)
  where
    opens : suc (r.inside + r.passed) ≡ (r.inside + 1) + r.passed
    opens = omega arith

    passes : suc (r.inside + r.passed) ≡ r.inside + (r.passed + 1)
    passes = omega arith

    go : (t : Bool) → BalancedFrom ((cond {A = Reading} t (opened r) (passed r)).inside + (cond {A = Reading} t (opened r) (passed r)).passed) items
    go true = subst (λ n. BalancedFrom n items) opens b
    go false = subst (λ n. BalancedFrom n items) passes b
balanced_of r End items k b = go (r.passed == 0) refl
  where
    go : (t : Bool) → (r.passed == 0) ≡ t → BalancedFrom ((cond {A = Reading} t (record { found = r.found; inside = r.inside - 1; passed = 0 }) (record { found = r.found; inside = r.inside; passed = r.passed - 1 })).inside + (cond {A = Reading} t (record { found = r.found; inside = r.inside - 1; passed = 0 }) (record { found = r.found; inside = r.inside; passed = r.passed - 1 })).passed) items
    go true e =
        let z = (Decides-eqb r.passed 0).0 e in
        let n : (r.inside + r.passed) - 1 ≡ (r.inside - 1) + 0 = omega (arith, z) in
        subst (λ n. BalancedFrom n items) n b
    go false e =
        let some : 0 < r.passed = grind (arith, nat_tests, e) in
        let n : (r.inside + r.passed) - 1 ≡ r.inside + (r.passed - 1) = omega (arith, some) in
        subst (λ n. BalancedFrom n items) n b

pub balanced_step : (r : Reading) (i : Item) (items : List Item) → BalancedFrom (r.inside + r.passed) (i ∷ items) → BalancedFrom ((step r i).inside + (step r i).passed) items
balanced_step r i items b = balanced_of r i.content items b.0 b.1
