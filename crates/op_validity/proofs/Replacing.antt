-- Steps of a walk over a document in pieces.
--     rebuilt_at, rebuilt_makes     items are made for some of those left
--     written_at, written_makes     what was made is written down
--     passed_at, passed_makes       items are passed over
--     all_made                      nothing is left
use Rattle.std.proofs.Common.{◌≡◌, ℕ, zero, suc, ◌+◌, ◌-◌, ◌<◌, ◌≤◌, List, [], ◌∷◌, ◌++◌, length, take, drop, replicate, refl, sym, ap, ◌∙◌, arith, append_assoc, append-nil, length-drop, Some}
use Rattle.std.proofs.lemmas.List.{take_all, take-take, take-append-le, drop_at, length-take-le}
use Rattle.std.specs.Option.{option_map}
use Rattle.doc_items.specs.Changes.{none_running}
use Rattle.doc_items.specs.declared.item.Content.{Content}
use Rattle.doc_items.specs.declared.item.Content.TheVariants.{Character, Start, End}
use Rattle.doc_items.specs.declared.item.Item.{Item}
use Rattle.doc_items.proofs.ChangeSets.{put_none}
use Rattle.doc_op.specs.Actions.{Action, Unchanged, keep}
use Rattle.doc_op.specs.Apply.{put_content, keeps, kept, apply}
use Rattle.doc_op.proofs.Applying.{no_value, same_Some, mapped, passed}
use Rattle.doc_rope.specs.declared.replacement.Replacement.{Replacement}
use Rattle.doc_rope.specs.Replacements.{replaced, all_replaced, InOrder}
use Rattle.doc_rope.proofs.Replaced.{replaced_last, order_more, order_further}
use Rattle.op_validity.specs.Edits.{IsAt, Makes}
use Rattle.op_validity.specs.Sources.{IsTail}
use Rattle.op_validity.specs.Walks.{Gives}
use Rattle.op_validity.proofs.Gives.{tail_trans}

-- ---- items are made

tail_shorter : (left items : List Item) → IsTail left items → length left ≤ length items
tail_shorter left items t = let e = ap length t.is ∙ length-drop (length items - length left) items in omega (arith, e)

pub rebuilt_at : (doc : List Item) (done : List Replacement) (from : ℕ) (items left made rest : List Item) (a b : List Action) → IsAt doc done from left → Gives left items a rest made b → IsAt doc done from rest
rebuilt_at doc done from items left made rest a b h g = record {
  tail = tail_trans doc left rest h.tail g.tail;
  place = let shorter = tail_shorter rest left g.tail in omega (arith, h.place, shorter);
  order = h.order;
}

pub rebuilt_makes : (all : List Action) (doc : List Item) (done : List Replacement) (from : ℕ) (items left made rest : List Item) (a b : List Action) → Gives left items a rest made b → Makes all doc done from items left a → Makes all doc done from made rest b
rebuilt_makes all doc done from items left made rest a b g m = record {
  run = λ out is.
      let f = m.run out is in
      let t = g.run f.0 f.1 in
      (t.0, t.1, ap (all_replaced done) (append_assoc (take from doc) made t.0 ∙ ap (λ w. take from doc ++ w) (sym t.2) ∙ sym (append_assoc (take from doc) items f.0)) ∙ f.2);
}

-- ---- what was made is written down

pub written_at : (doc : List Item) (done : List Replacement) (left : List Item) (r : Replacement) → IsAt doc done r.from left → r.from + r.count + length left ≡ length doc → IsAt doc (done ++ r ∷ []) (r.from + r.count) left
written_at doc done left r h e = record {
  tail = h.tail;
  place = omega (arith, e);
  order = let last : r.from + r.count ≤ r.from + r.count = omega arith in order_more 0 done r (r.from + r.count) h.order last;
}

put_back : (doc rest : List Item) (r : Replacement) → r.from + r.count ≤ length doc → replaced r (take (r.from + r.count) doc ++ [] ++ rest) ≡ take r.from doc ++ r.items ++ rest
put_back doc rest r h =
    let front = take (r.from + r.count) doc in
    let n = length-take-le (r.from + r.count) doc h in
    let less : r.from ≤ length front = omega (arith, n) in
    let inner : r.from ≤ r.from + r.count = omega arith in
    let whole : front ++ [] ++ rest ≡ front ++ rest = ap (λ w. w ++ rest) (append-nil front) in
    let before : take r.from (front ++ [] ++ rest) ≡ take r.from doc = ap (take r.from) whole ∙ take-append-le r.from front rest less ∙ take-take r.from (r.from + r.count) doc inner in
    let after : drop (r.from + r.count) (front ++ [] ++ rest) ≡ rest = ap (drop (r.from + r.count)) whole ∙ drop_at front rest (r.from + r.count) n in
    λ i. before i ++ r.items ++ after i

pub written_makes : (all : List Action) (doc : List Item) (done : List Replacement) (left : List Item) (r : Replacement) (more : List Action) → r.from + r.count + length left ≡ length doc
    → Makes all doc done r.from r.items left more → Makes all doc (done ++ r ∷ []) (r.from + r.count) [] left more
written_makes all doc done left r more e m = record {
  run = λ out is.
      let f = m.run out is in
      (f.0, f.1, replaced_last done r (take (r.from + r.count) doc ++ [] ++ f.0) ∙ ap (all_replaced done) (put_back doc f.0 r (omega (arith, e))) ∙ f.2);
}

-- ---- items are passed over

kept_same : (i : Item) → kept none_running Unchanged i ≡ i
kept_same i = λ j. record { content = same i.content j; notes = put_none i.notes j }
  where
    same : (c : Content) → put_content Unchanged c ≡ c
    same (Character x) = refl
    same (Start kind m) = refl
    same End = refl

record Passed (n : ℕ) (left : List Item) (more : List Action) (out : List Item) : Type 0 where
  enough : n ≤ length left
  rest : List Item
  applies : apply more (drop n left) ≡ Some rest
  is : take n left ++ rest ≡ out

passed_over : (n : ℕ) (left : List Item) (more : List Action) (out : List Item) → apply (replicate n (keep none_running) ++ more) left ≡ Some out → Passed n left more out
passed_over zero left more out e = record { enough = omega arith; rest = out; applies = e; is = refl }
passed_over (suc n) [] more out e = no_value e
passed_over (suc n) (i ∷ left) more out e =
    let p = passed (keeps none_running Unchanged i) (option_map (λ (o : List Item). kept none_running Unchanged i ∷ o) (apply (replicate n (keep none_running) ++ more) left)) out e in
    let m = mapped (λ (o : List Item). kept none_running Unchanged i ∷ o) (apply (replicate n (keep none_running) ++ more) left) out p.rest in
    let t = passed_over n left more m.value m.had in
    record { enough = omega (arith, t.enough); rest = t.rest; applies = t.applies; is = (λ j. sym (kept_same i) j ∷ t.is j) ∙ m.gives }

take_further : (n m : ℕ) (items : List Item) → take (n + m) items ≡ take n items ++ take m (drop n items)
take_further zero m items = let none : 0 + m ≡ m = omega arith in ap (λ k. take k items) none
take_further (suc n) m [] = let a : 0 ≤ suc n + m = omega arith in let b : 0 ≤ m = omega arith in take_all (suc n + m) [] a ∙ sym (take_all m [] b)
take_further (suc n) m (i ∷ items) = let next : suc n + m ≡ suc (n + m) = omega arith in ap (λ k. take k (i ∷ items)) next ∙ ap (λ w. i ∷ w) (take_further n m items)

at_end : (doc left : List Item) (from : ℕ) → IsTail left doc → from + length left ≡ length doc → left ≡ drop from doc
at_end doc left from t e = let place : length doc - length left ≡ from = omega (arith, e) in t.is ∙ ap (λ n. drop n doc) place

pub passed_at : (doc : List Item) (done : List Replacement) (from n : ℕ) (left : List Item) → IsAt doc done from left → from + length left ≡ length doc → n ≤ length left → IsAt doc done (from + n) (drop n left)
passed_at doc done from n left h e less =
    let fewer = length-drop n left in
    let back : n ≡ length left - length (drop n left) = omega (arith, fewer, less) in
    record {
      tail = tail_trans doc left (drop n left) h.tail (record { is = ap (λ k. drop k left) back });
      place = omega (arith, e, fewer, less);
      order = let further : from ≤ from + n = omega arith in order_further 0 done from (from + n) h.order further;
    }

pub passed_makes : (all : List Action) (doc : List Item) (done : List Replacement) (from n : ℕ) (left : List Item) (more : List Action) → IsTail left doc → from + length left ≡ length doc
    → Makes all doc done from [] left (replicate n (keep none_running) ++ more) → Makes all doc done (from + n) [] (drop n left) more
passed_makes all doc done from n left more t e m = record {
  run = λ out is.
      let f = m.run out is in
      let p = passed_over n left more f.0 f.1 in
      let whole : take (from + n) doc ++ [] ++ p.rest ≡ take from doc ++ [] ++ f.0 =
      ap (λ w. w ++ p.rest) (append-nil (take (from + n) doc) ∙ take_further from n doc ∙ ap (λ w. take from doc ++ take n w) (sym (at_end doc left from t e)))
      ∙ append_assoc (take from doc) (take n left) p.rest
      ∙ ap (λ w. take from doc ++ w) p.is
      ∙ ap (λ w. w ++ f.0) (sym (append-nil (take from doc))) in
      (p.rest, p.applies, ap (all_replaced done) whole ∙ f.2);
}

-- so many items are there
pub not_passed : (all : List Action) (doc : List Item) (done : List Replacement) (from n : ℕ) (left : List Item) (more : List Action) → length left < n
    → Makes all doc done from [] left (replicate n (keep none_running) ++ more) → Makes all doc done from [] left more
not_passed all doc done from n left more h m = record {
  run = λ out is.
      let f = m.run out is in
      let p = passed_over n left more f.0 f.1 in
      absurd (omega (arith, h, p.enough));
}

-- ---- nothing is left

nothing_left : (left rest : List Item) → apply [] left ≡ Some rest → (left ≡ []) × (rest ≡ [])
nothing_left [] rest e = (refl, sym (same_Some e))
nothing_left (i ∷ left) rest e = no_value e

pub all_made : (all : List Action) (doc : List Item) (done : List Replacement) (from : ℕ) (left out : List Item) → from + length left ≡ length doc → Makes all doc done from [] left [] → apply all doc ≡ Some out → all_replaced done doc ≡ out
all_made all doc done from left out e m is =
    let f = m.run out is in
    let n = nothing_left left f.0 f.1 in
    let none = ap length n.0 in
    let whole : take from doc ++ [] ++ f.0 ≡ doc = (λ j. take from doc ++ [] ++ n.1 j) ∙ append-nil (take from doc ++ []) ∙ append-nil (take from doc) ∙ take_all from doc (omega (arith, e, none)) in
    sym (ap (all_replaced done) whole) ∙ f.2

pub started : (all : List Action) (doc left items : List Item) (done : List Replacement) → left ≡ doc → items ≡ [] → done ≡ [] → Makes all doc done 0 items left all
started all doc left items done e f g = record { run = λ out is. (out, ap (apply all) e ∙ is, λ j. all_replaced (g j) (take 0 doc ++ f j ++ out)) }

pub order_whole : (doc : List Item) (done : List Replacement) (from : ℕ) (left : List Item) → IsAt doc done from left → InOrder 0 done (length doc)
order_whole doc done from left h = let inside : from ≤ length doc = omega (arith, h.place) in order_further 0 done from (length doc) h.order inside
