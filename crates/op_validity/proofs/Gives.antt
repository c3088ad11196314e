-- What the actions of an operation that applies make of a document, one after another.
--     gives_refl, gives_trans     a step after others
--     tail_refl, tail_one, tail_trans     what is left is the last of the items
--     given, none_left            one item
--     gives_insertion             one insertion
--     new_values_put              the new values that run, set one by one
use Rattle.std.proofs.Common.{◌≡◌, ◌+◌, ◌-◌, suc, List, [], ◌∷◌, ◌++◌, length, drop, length-drop, arith, refl, sym, ap, subst, ◌∙◌, append_assoc, Option, None, Some, option_and_then}
use Rattle.std.proofs.lemmas.List.{drop-drop}
use Rattle.std.specs.Option.{option_map}
use Rattle.std.specs.Cmp.Lexicographic.{slice_cmp}
use Rattle.std.specs.Ordering.{nat_cmp}
use Rattle.std.specs.FinMap.{empty, get, get-empty}
use Rattle.doc_items.specs.Changes.{KeyChange, ChangeSet, set_new, put}
use Rattle.doc_items.specs.declared.item.Item.{Item}
use Rattle.doc_items.proofs.Maps.{alike, get-merge, get-picked}
use Rattle.doc_op.specs.Actions.{Action, Keep, Ins, Del, new_values}
use Rattle.doc_op.specs.Apply.{keeps, kept, fits, apply}
use Rattle.doc_op.proofs.Applying.{no_value, mapped, passed}
use Rattle.op_validity.specs.Sources.{IsTail}
use Rattle.op_validity.specs.Walks.{Gives, left_by, with_left}
use Rattle.op_validity.proofs.Walks.{TakesOne}

pub tail_refl : (items : List Item) → IsTail items items
tail_refl items = let none : 0 ≡ length items - length items = omega arith in record { is = ap (λ n. drop n items) none }

pub tail_one : (i : Item) (items : List Item) → IsTail items (i ∷ items)
tail_one i items = let one : 1 ≡ suc (length items) - length items = omega arith in record { is = ap (λ n. drop n (i ∷ items)) one }

pub tail_trans : (x y z : List Item) → IsTail y x → IsTail z y → IsTail z x
tail_trans x y z h k =
    let a = ap length h.is ∙ length-drop (length x - length y) x in
    let b = ap length k.is ∙ length-drop (length y - length z) y in
    let further : (length x - length y) + (length y - length z) ≡ length x - length z = omega (arith, a, b) in
    record {
      is = k.is ∙ ap (drop (length y - length z)) h.is ∙ drop-drop (length y - length z) (length x - length y) x
          ∙ ap (λ n. drop n x) further;
    }

pub gives_refl : (items made : List Item) (a : List Action) → Gives items made a items made a
gives_refl items made a = record { tail = tail_refl items; run = λ out is. (out, is, refl) }

pub gives_trans : (x y z made more most : List Item) (a b c : List Action) → Gives x made a y more b → Gives y more b z most c → Gives x made a z most c
gives_trans x y z made more most a b c h k = record {
  tail = tail_trans x y z h.tail k.tail;
  run = λ out is.
      let g = h.run out is in
      let f = k.run g.0 g.1 in
      (f.0, f.1, g.2 ∙ f.2);
}

-- ---- one item

pub given : (act : Action) (i : Item) (items made : List Item) (more : List Action) → TakesOne act → Gives (i ∷ items) made (act ∷ more) items (with_left made (left_by act i)) more
given (Keep u a) i items made more t = record {
  tail = tail_one i items;
  run = λ out is.
      let p = passed (keeps u a i) (option_map (λ (o : List Item). kept u a i ∷ o) (apply more items)) out is in
      let m = mapped (λ (o : List Item). kept u a i ∷ o) (apply more items) out p.rest in
      (m.value, m.had, ap (λ o. made ++ o) (sym m.gives) ∙ sym (append_assoc made (kept u a i ∷ []) m.value));
}
given (Ins x) i items made more t = absurd t
given (Del c n) i items made more t = record { tail = tail_one i items; run = λ out is. (out, (passed (fits c n i) (apply more items) out is).rest, refl) }

pub none_left : (act : Action) (made : List Item) (more : List Action) → TakesOne act → Gives [] made (act ∷ more) [] made more
none_left (Keep u a) made more t = record { tail = record { is = refl }; run = λ out is. no_value is }
none_left (Ins x) made more t = absurd t
none_left (Del c n) made more t = record { tail = record { is = refl }; run = λ out is. no_value is }

-- ---- insertions

pub gives_insertion : (x : Item) (items made : List Item) (more : List Action) → Gives items made (Ins x ∷ more) items (made ++ x ∷ []) more
gives_insertion x items made more = record {
  tail = tail_refl items;
  run = λ out is.
      let m = mapped (λ (o : List Item). x ∷ o) (apply more items) out is in
      (m.value, m.had, ap (λ o. made ++ o) (sym m.gives) ∙ sym (append_assoc made (x ∷ []) m.value));
}

new_one : (c : Option KeyChange) → set_new c None ≡ option_and_then (λ d. d.new) c
new_one None = refl
new_one (Some c) = refl

pub new_values_put : (u : ChangeSet) → put u empty ≡ new_values u
new_values_put u = alike _ _ (λ q.
    get-merge set_new u empty q refl ∙ ap (set_new (get u q)) (get-empty (slice_cmp nat_cmp) q) ∙ new_one (get u q)
    ∙ sym (get-picked (λ (c : KeyChange). c.new) u q))

-- ---- one after another

pub gives_more : (x y z made more most : List Item) (all left rest : List Action) (act : Action) → left ≡ act ∷ rest → Gives x made all y more left → Gives y more (act ∷ rest) z most rest → Gives x made all z most rest
gives_more x y z made more most all left rest act e h k = gives_trans x y z made more most all left rest h (subst (λ (l : List Action). Gives y more l z most rest) (sym e) k)

pub ruleset starts = (gives_refl, gives_insertion)
