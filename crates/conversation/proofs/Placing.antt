-- New elements at the end of an element of the tree.
--     IsNew r new nodes        read where r is, the items show these nodes, and leave the reading as it was
--     placed                   the tree grows at the node whose element it is
use Rattle.std.proofs.Common.{◌≡◌, ◌≤◌, ◌+◌, ◌-◌, ◌==◌, ℕ, zero, suc, Bool, true, false, cond, List, [], ◌∷◌, ◌++◌, take, drop, slice_get, Option, Some, None, refl, sym, ap, subst, ◌∙◌, arith, append_assoc, append-nil, take-add, drop-drop}
use Rattle.std.proofs.lemmas.List.{take-append-drop}
use Rattle.doc_items.specs.declared.item.Content.{Content}
use Rattle.doc_items.specs.declared.item.Content.TheVariants.{End}
use Rattle.doc_items.specs.declared.item.Item.{Item}
use Rattle.op_build.specs.Edits.{replaced}
use Rattle.conversation.specs.declared.node.Node.{Node}
use Rattle.conversation.specs.declared.reading.Reading.{Reading}
use Rattle.conversation.specs.declared.search.Found.{Found}
use Rattle.conversation.specs.Edits.{grown}
use Rattle.conversation.specs.Search.{AreWithin, FirstAtMost, IsFound, IsEnd}
use Rattle.conversation.specs.Trees.{start, step, shown, shown_content, step_content, closed, tree, behind, thread_tree}
use Rattle.conversation.proofs.Growing.{grown_here, first_low}
use Rattle.conversation.proofs.Readings.{next_item, take_next, tree_append, after_append, tree_next, after_next}

pub record IsNew (r : Reading) (new : List Item) (nodes : List Node) : Type 0 where
  pub shows : tree r new ≡ nodes
  pub same : behind r new ≡ r

-- what stands after the end of the element
end_low : (r : Reading) (i : Item) (d : ℕ) (back : List Item) → i.content ≡ End → r.inside ≡ d + 2 → r.passed ≡ 0 → FirstAtMost d (tree r (i ∷ back))
end_low r i d back e n p =
    let gone : closed r ≡ record { found = r.found; inside = r.inside - 1; passed = 0 } = ap (λ t. cond {A = Reading} t (record { found = r.found; inside = r.inside - 1; passed = 0 }) (record { found = r.found; inside = r.inside; passed = r.passed - 1 })) (ap (λ k. k == 0) p) in
    let low : (closed r).inside ≤ d + 1 = subst (λ (x : Reading). x.inside ≤ d + 1) (sym gone) (omega (arith, n)) in
    subst (λ c. FirstAtMost d (shown_content r c ++ tree (step_content r c) back)) (sym e) (first_low d (closed r) back low)

module _ (items new : List Item) (f : Found) (test : Node → Bool) (k : ℕ) (found : IsFound test items f) (end : IsEnd f.reading (drop (f.place + 1) items) k) where
  abbrev pub here : ℕ
  here = f.place + 1

  abbrev pub rest : List Item
  rest = drop (f.place + 1) items

  abbrev pub place : ℕ
  place = f.place + 1 + k

  abbrev pub front : List Node
  front = tree start (take f.place items)

  abbrev pub inside : List Node
  inside = tree f.reading (take k rest)

  abbrev pub back : List Node
  back = tree f.reading (drop k rest)

  begun : behind start (take here items) ≡ f.reading
  begun = after_next start items f.place found.item found.here ∙ sym found.reading

  first : tree start (take here items) ≡ front ++ found.node ∷ []
  first = tree_next start items f.place found.item found.here ∙ ap (λ z. front ++ z) found.shows

  until : take place items ≡ take here items ++ take k rest
  until = take-add here k items

  left : drop place items ≡ drop k rest
  left = sym (drop-drop k here items)

  ended : behind start (take place items) ≡ f.reading
  ended = ap (behind start) until ∙ after_append start (take here items) (take k rest) ∙ ap (λ r. behind r (take k rest)) begun ∙ end.same

  shown_until : tree start (take place items) ≡ (front ++ found.node ∷ []) ++ inside
  shown_until = ap (tree start) until ∙ tree_append start (take here items) (take k rest) ∙ (λ i. first i ++ tree (begun i) (take k rest))

  split : (xs : List Item) → tree start (take place items ++ xs) ≡ front ++ found.node ∷ (inside ++ tree f.reading xs)
  split xs =
      tree_append start (take place items) xs ∙ (λ i. shown_until i ++ tree (ended i) xs)
      ∙ append_assoc (front ++ found.node ∷ []) inside (tree f.reading xs) ∙ append_assoc front (found.node ∷ []) (inside ++ tree f.reading xs)

  whole : thread_tree items ≡ front ++ found.node ∷ (inside ++ back)
  whole = ap (tree start) (sym (take-append-drop place items)) ∙ split (drop place items) ∙ ap (λ z. front ++ found.node ∷ (inside ++ tree f.reading z)) left

  low : FirstAtMost found.node.depth back
  low = subst (λ z. FirstAtMost found.node.depth (tree f.reading z)) (sym (next_item rest k end.item end.here)) (end_low f.reading end.item found.node.depth (drop (k + 1) rest) end.ends found.inside found.begun.passed)

  within : AreWithin (found.node.depth + 2) inside
  within = subst (λ b. AreWithin b inside) found.inside end.within

  pub placed : (nodes : ℕ → List Node) → IsNew f.reading new (nodes found.node.depth) → grown test nodes (thread_tree items) ≡ Some (thread_tree (replaced items place 0 new))
  placed nodes n =
      let after_new : drop (place + 0) items ≡ drop k rest = ap (λ z. drop z items) (omega arith) ∙ left in
      let grew : tree f.reading (new ++ drop (place + 0) items) ≡ nodes found.node.depth ++ back =
      tree_append f.reading new (drop (place + 0) items) ∙ (λ i. n.shows i ++ tree (n.same i) (after_new i)) in
      ap (grown test nodes) whole
      ∙ grown_here test nodes front found.node inside back found.none found.passes within low
      ∙ ap Some (sym (ap (tree start) (append_assoc (take place items) new (drop (place + 0) items)) ∙ split (new ++ drop (place + 0) items) ∙ ap (λ z. front ++ found.node ∷ (inside ++ z)) grew))
