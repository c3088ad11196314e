-- Nodes in three parts: those before one that passes a test, those inside its element, and those after.
--     has_append                    a test of two parts
--     grown_here, none_grown        the first node that passes the test gets new ones
--     first_low                     after an end the next node stands no deeper
use Rattle.std.proofs.Common.{◌≡◌, ◌<◌, ◌≤◌, ◌+◌, ◌-◌, ◌==◌, ◌&&◌, ◌||◌, nat_le, ℕ, zero, suc, Bool, true, false, cond, List, [], ◌∷◌, ◌++◌, Option, Some, None, refl, sym, ap, subst, ◌∙◌, arith, true≢false, append-nil}
use Rattle.std.specs.Option.{option_map}
use Rattle.std.proofs.lemmas.Bool.{or_parts}
use Rattle.std.proofs.lemmas.Bool.Decides.{nat_tests}
use Rattle.doc_items.specs.declared.item.Content.{Content}
use Rattle.doc_items.specs.declared.item.Content.TheVariants.{Character, Start, End}
use Rattle.doc_items.specs.declared.item.Item.{Item}
use Rattle.doc_items.specs.Maps.{Key, Map}
use Rattle.conversation.specs.declared.node.Node.{Node}
use Rattle.conversation.specs.declared.reading.Reading.{Reading}
use Rattle.conversation.specs.Edits.{has, under, grown}
use Rattle.conversation.specs.Search.{AreWithin, FirstAtMost}
use Rattle.conversation.specs.Trees.{enters, opened, passed, closed, step_content, step, nodes_at, shown_content, shown, tree}

pub has_append : (test : Node → Bool) (xs ys : List Node) → has test xs ≡ false → has test (xs ++ ys) ≡ has test ys
has_append test [] ys h = refl
has_append test (x ∷ xs) ys h =
    let p = or_parts (test x) (has test xs) h in
    ap (λ t. t || has test (xs ++ ys)) p.0 ∙ has_append test xs ys p.1

pub none_grown : (test : Node → Bool) (new : ℕ → List Node) (ns : List Node) → has test ns ≡ false → grown test new ns ≡ None
none_grown test new [] h = refl
none_grown test new (n ∷ ns) h =
    let p = or_parts (test n) (has test ns) h in
    ap (λ t. cond t (Some (n ∷ under n.depth (new n.depth) ns)) (option_map (λ z. n ∷ z) (grown test new ns))) p.0 ∙ ap (option_map (λ z. n ∷ z)) (none_grown test new ns p.1)

above : (d e : ℕ) → d < e → nat_le e d ≡ false
above d e h = grind (arith, nat_tests)

at_most : (d e : ℕ) → e ≤ d → nat_le e d ≡ true
at_most d e h = grind (arith, nat_tests)

under_after : (d : ℕ) (new back : List Node) → FirstAtMost d back → under d new back ≡ new ++ back
under_after d new [] h = sym (append-nil new)
under_after d new (n ∷ back) h = ap (λ t. cond t (new ++ n ∷ back) (n ∷ under d new back)) (at_most d n.depth h)

under_past : (d : ℕ) (new inside back : List Node) → AreWithin (d + 2) inside → FirstAtMost d back → under d new (inside ++ back) ≡ inside ++ (new ++ back)
under_past d new [] back w h = under_after d new back h
under_past d new (n ∷ inside) back w h =
    let deep : d < n.depth = omega (arith, w.0) in
    ap (λ t. cond t (new ++ n ∷ (inside ++ back)) (n ∷ under d new (inside ++ back))) (above d n.depth deep) ∙ ap (λ z. n ∷ z) (under_past d new inside back w.1 h)

pub grown_here : (test : Node → Bool) (new : ℕ → List Node) (front : List Node) (n : Node) (inside back : List Node) → has test front ≡ false → test n ≡ true → AreWithin (n.depth + 2) inside → FirstAtMost n.depth back
    → grown test new (front ++ n ∷ (inside ++ back)) ≡ Some (front ++ n ∷ (inside ++ (new n.depth ++ back)))
grown_here test new [] n inside back h p w l =
    ap (λ t. cond t (Some (n ∷ under n.depth (new n.depth) (inside ++ back))) (option_map (λ z. n ∷ z) (grown test new (inside ++ back)))) p
    ∙ ap (λ z. Some (n ∷ z)) (under_past n.depth (new n.depth) inside back w l)
grown_here test new (x ∷ front) n inside back h p w l =
    let q = or_parts (test x) (has test front) h in
    ap (λ t. cond t (Some (x ∷ under x.depth (new x.depth) (front ++ n ∷ (inside ++ back)))) (option_map (λ z. x ∷ z) (grown test new (front ++ n ∷ (inside ++ back))))) q.0
    ∙ ap (option_map (λ z. x ∷ z)) (grown_here test new front n inside back q.1 p w l)

-- ---- the next node

abbrev lowered : Reading → Bool → Reading
lowered r t = cond t (record { found = r.found; inside = r.inside - 1; passed = 0 }) (record { found = r.found; inside = r.inside; passed = r.passed - 1 })

opened_low : (d inside : ℕ) (m : Map Key) (rest : List Node) → inside ≤ d + 1 → (inside ≡ 0 → FirstAtMost d rest) → FirstAtMost d (nodes_at inside m ++ rest)
opened_low d zero m rest h f = f refl
opened_low d (suc e) m rest h f = omega (arith, h)

pub first_low : (d : ℕ) (r : Reading) (items : List Item) → r.inside ≤ d + 1 → FirstAtMost d (tree r items)
first_low d r [] h = tt
first_low d r (i ∷ items) h = go (λ s k. first_low d s items k) i.content
  where
    go : ((s : Reading) → s.inside ≤ d + 1 → FirstAtMost d (tree s items)) → (c : Content) → FirstAtMost d (shown_content r c ++ tree (step_content r c) items)
    go again (Character c) = again r h
    go again (Start kind m) = at (enters r kind m)
      where
        at : (t : Bool) → FirstAtMost d (cond t (nodes_at r.inside m) [] ++ tree (cond t (opened r) (passed r)) items)
        at true = opened_low d r.inside m (tree (opened r) items) h (λ z. again (opened r) (omega (arith, z)))
        at false = again (passed r) h
    go again End = at (r.passed == 0)
      where
        at : (t : Bool) → FirstAtMost d (tree (lowered r t) items)
        at true = again (lowered r true) (omega (arith, h))
        at false = again (lowered r false) h
