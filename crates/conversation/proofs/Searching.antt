-- What one step of a search tells.
--     slice_drop                    an item after a front
--     step_balanced                 what is open is what the rest still ends
--     IsOne, one_shown              an item that begins the node that is looked for
use Rattle.std.proofs.Common.{◌≡◌, ◌<◌, ◌+◌, ◌==◌, length, ◌||◌, ℕ, zero, suc, Bool, true, false, cond, List, [], ◌∷◌, drop, slice_get, Option, Some, None, refl, sym, ap, subst, ◌∙◌, arith, true≢false}
use Rattle.std.proofs.Math.Bool.{or-false}
use Rattle.std.proofs.lemmas.Bool.{and_parts}
use Rattle.std.proofs.lemmas.Bool.Decides.{Decides-eqb}
use Rattle.doc_items.specs.Balance.{BalancedFrom}
use Rattle.doc_items.specs.Maps.{Key, Map}
use Rattle.doc_items.specs.declared.item.Content.{Content}
use Rattle.doc_items.specs.declared.item.Content.TheVariants.{Character, Start, End}
use Rattle.doc_items.specs.declared.item.Item.{Item}
use Rattle.conversation.specs.declared.node.Node.{Node}
use Rattle.conversation.specs.declared.reading.Reading.{Reading}
use Rattle.conversation.specs.Edits.{has}
use Rattle.conversation.specs.Trees.{enters, enters_at, opened, passed, step_content, step, node_at, nodes_at, shown_content}
use Rattle.doc_op.proofs.Applying.{no_value}
use Rattle.conversation.proofs.Readings.{next_item, balanced_step}

pub slice_drop : (items : List Item) (n k : ℕ) → slice_get (drop n items) k ≡ slice_get items (n + k)
slice_drop items zero k = ap (slice_get items) (omega arith)
slice_drop [] (suc n) k = refl
slice_drop (x ∷ items) (suc n) k = let at : suc (n + k) ≡ suc n + k = omega arith in slice_drop items n k ∙ ap (slice_get (x ∷ items)) at

pub inside_list : (items : List Item) (k : ℕ) (i : Item) → slice_get items k ≡ Some i → k < length items
inside_list [] k i e = no_value e
inside_list (x ∷ items) zero i e = omega arith
inside_list (x ∷ items) (suc k) i e = let r = inside_list items k i e in omega (arith, r)

pub step_balanced : (r r' : Reading) (items : List Item) (k : ℕ) (i : Item) → slice_get items k ≡ Some i → r' ≡ step r i → BalancedFrom (r.inside + r.passed) (drop k items) → BalancedFrom (r'.inside + r'.passed) (drop (k + 1) items)
step_balanced r r' items k i e s b =
    let here = subst (BalancedFrom (r.inside + r.passed)) (next_item items k i e) b in
    subst (λ (x : Reading). BalancedFrom (x.inside + x.passed) (drop (k + 1) items)) (sym s) (balanced_step r i (drop (k + 1) items) here)

pub record IsOne (test : Node → Bool) (r : Reading) (c : Content) : Type 0 where
  pub node : Node
  pub attributes : Map Key
  pub is : node ≡ node_at node.depth attributes
  pub shows : shown_content r c ≡ node ∷ []
  pub passes : test node ≡ true
  pub found : (step_content r c).found ≡ true
  pub inside : (step_content r c).inside ≡ node.depth + 2
  pub none : (step_content r c).passed ≡ 0

pub one_shown : (test : Node → Bool) (r : Reading) (c : Content) → has test (shown_content r c) ≡ true → IsOne test r c
one_shown test r (Character c) h = absurd (true≢false (sym h))
one_shown test r End h = absurd (true≢false (sym h))
one_shown test r (Start kind m) h = go (enters r kind m) refl h
  where
    at : enters r kind m ≡ true → (n : ℕ) → r.inside ≡ n → has test (nodes_at n m) ≡ true → IsOne test r (Start kind m)
    at e zero f h = absurd (true≢false (sym h))
    at e (suc d) f h =
        let zero_passed = (Decides-eqb r.passed 0).0 (and_parts (r.passed == 0) (enters_at r.found r.inside kind m) e).0 in
        let two : r.inside + 1 ≡ d + 2 = omega (arith, f) in
        record {
          node = node_at d m;
          attributes = m;
          is = refl;
          shows = ap (λ t. cond t (nodes_at r.inside m) []) e ∙ ap (λ n. nodes_at n m) f;
          passes = sym (or-false (test (node_at d m))) ∙ h;
          found = ap (λ t. (cond {A = Reading} t (opened r) (passed r)).found) e;
          inside = ap (λ t. (cond {A = Reading} t (opened r) (passed r)).inside) e ∙ two;
          none = ap (λ t. (cond {A = Reading} t (opened r) (passed r)).passed) e ∙ zero_passed;
        }

    go : (t : Bool) → enters r kind m ≡ t → has test (cond t (nodes_at r.inside m) []) ≡ true → IsOne test r (Start kind m)
    go true e h = at e r.inside refl h
    go false e h = absurd (true≢false (sym h))
