-- The end of an element of the tree.
--     found_step, low_step, within_step     what stays after an item that isn't the end
--     same_end                              at the end the manifest is read as far as after the start
use Rattle.std.proofs.Common.{◌≡◌, ◌<◌, ◌≤◌, ◌+◌, ◌-◌, ◌==◌, ◌&&◌, ℕ, zero, suc, Bool, true, false, cond, List, [], ◌∷◌, ◌++◌, refl, sym, ap, subst, ◌∙◌, arith, true≢false}
use Rattle.std.proofs.lemmas.Bool.{and_parts}
use Rattle.std.proofs.lemmas.Bool.Decides.{nat_tests, Decides-eqb}
use Rattle.doc_items.specs.declared.item.Content.{Content}
use Rattle.doc_items.specs.declared.item.Content.TheVariants.{Character, Start, End}
use Rattle.doc_items.specs.declared.item.Item.{Item}
use Rattle.doc_items.specs.Maps.{Key, Map}
use Rattle.conversation.specs.declared.node.Node.{Node}
use Rattle.conversation.specs.declared.reading.Reading.{Reading}
use Rattle.conversation.specs.Search.{AreWithin, ends_here}
use Rattle.conversation.specs.Trees.{enters, opened, passed, closed, step_content, step, node_at, nodes_at, shown_content, shown, tree, behind}

abbrev lowered : Reading → Bool → Reading
lowered r t = cond t (record { found = r.found; inside = r.inside - 1; passed = 0 }) (record { found = r.found; inside = r.inside; passed = r.passed - 1 })

found_of : (r : Reading) (c : Content) → r.found ≡ true → (step_content r c).found ≡ true
found_of r (Character c) f = f
found_of r (Start kind m) f = go (enters r kind m)
  where
    go : (t : Bool) → (cond {A = Reading} t (opened r) (passed r)).found ≡ true
    go true = refl
    go false = f
found_of r End f = go (r.passed == 0)
  where
    go : (t : Bool) → (lowered r t).found ≡ true
    go true = f
    go false = f

pub found_step : (r : Reading) (i : Item) → r.found ≡ true → (step r i).found ≡ true
found_step r i f = found_of r i.content f

low_of : (r : Reading) (c : Content) (b : ℕ) → b ≤ r.inside → ends_here r c b ≡ false → b ≤ (step_content r c).inside
low_of r (Character c) b h e = h
low_of r (Start kind m) b h e = go (enters r kind m)
  where
    go : (t : Bool) → b ≤ (cond {A = Reading} t (opened r) (passed r)).inside
    go true = omega (arith, h)
    go false = h
low_of r End b h e = go (r.passed == 0) e
  where
    go : (t : Bool) → (t && (r.inside == b)) ≡ false → b ≤ (lowered r t).inside
    go true f = grind (arith, nat_tests, f, h)
    go false f = h

pub low_step : (r : Reading) (i : Item) (b : ℕ) → b ≤ r.inside → ends_here r i.content b ≡ false → b ≤ (step r i).inside
low_step r i b h e = low_of r i.content b h e

within_at : (inside b : ℕ) (m : Map Key) → b ≤ inside → AreWithin b (nodes_at inside m)
within_at zero b m h = tt
within_at (suc d) b m h = (omega (arith, h), tt)

within_of : (r : Reading) (c : Content) (b : ℕ) → b ≤ r.inside → AreWithin b (shown_content r c)
within_of r (Character c) b h = tt
within_of r (Start kind m) b h = go (enters r kind m)
  where
    go : (t : Bool) → AreWithin b (cond t (nodes_at r.inside m) [])
    go true = within_at r.inside b m h
    go false = tt
within_of r End b h = tt

both_within : (b : ℕ) (xs ys : List Node) → AreWithin b xs → AreWithin b ys → AreWithin b (xs ++ ys)
both_within b [] ys x y = y
both_within b (n ∷ xs) ys x y = (x.0, both_within b xs ys x.1 y)

pub within_step : (r : Reading) (i : Item) (b : ℕ) (ns : List Node) → b ≤ r.inside → AreWithin b ns → AreWithin b (ns ++ shown r i)
within_step r i b ns h w = both_within b ns (shown r i) w (within_of r i.content b h)

ends_parts : (r : Reading) (c : Content) (b : ℕ) → ends_here r c b ≡ true → (c ≡ End) × (r.passed ≡ 0) × (r.inside ≡ b)
ends_parts r (Character c) b e = absurd (true≢false (sym e))
ends_parts r (Start kind m) b e = absurd (true≢false (sym e))
ends_parts r End b e =
    let p = and_parts (r.passed == 0) (r.inside == b) e in
    (refl, (Decides-eqb r.passed 0).0 p.0, (Decides-eqb r.inside b).0 p.1)

pub ends : (r : Reading) (i : Item) (b : ℕ) → ends_here r i.content b ≡ true → i.content ≡ End
ends r i b e = (ends_parts r i.content b e).0

pub same_end : (r begun : Reading) (i : Item) → r.found ≡ true → begun.found ≡ true → begun.passed ≡ 0 → ends_here r i.content begun.inside ≡ true → r ≡ begun
same_end r begun i f g p e =
    let parts = ends_parts r i.content begun.inside e in
    λ j. record { found = (f ∙ sym g) j; inside = parts.2 j; passed = (parts.1 ∙ sym p) j }
