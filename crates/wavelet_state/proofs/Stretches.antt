-- An edit keeps what stands before the first and after the last of its replacements, so the stretch between, put back,
-- restores the document.
--     edited        what an edit makes of a document, as three parts
--     measures      where the stretch lies
--     restores      the stretch put back
--     end_at        where the last replacement ends
--     next_taken, some_left     items are copied one by one
use Rattle.std.proofs.Common.{◌≡◌, ℕ, ◌+◌, ◌≤◌, List, [], ◌∷◌, ◌++◌, length, take, drop, refl, sym, ap, ◌∙◌, arith, append_assoc, length-append, length-drop, drop-drop, zero, suc, ◌-◌, ◌<◌, slice_get, Option, None, Some, add-one}
use Rattle.std.proofs.lemmas.List.{length-take-le, take-append-le, drop-append-le, take-take, take_at, drop_at, take-append-drop}
use Rattle.doc_items.specs.declared.item.Item.{Item}
use Rattle.doc_rope.specs.declared.replacement.Replacement.{Replacement}
use Rattle.doc_rope.specs.Replacements.{all_replaced, InOrder}
use Rattle.wavelet_state.specs.Stretches.{first_from, last_end, stretch, Restores}

-- the three parts
pub record IsEdited (rs : List Replacement) (from end : ℕ) (doc : List Item) : Type 0 where
  pub middle : List Item
  pub is : all_replaced rs doc ≡ take from doc ++ middle ++ drop end doc
  pub order : from ≤ end
  pub inside : end ≤ length doc

joins : (a b d m e : List Item) → (a ++ b) ++ (d ++ (m ++ e)) ≡ (a ++ ((b ++ d) ++ m)) ++ e
joins [] b d m e = sym (append_assoc (b ++ d) m e ∙ append_assoc b d (m ++ e))
joins (x ∷ a) b d m e = ap (λ l. x ∷ l) (joins a b d m e)

edited_from : (r : Replacement) (rs : List Replacement) (p : ℕ) (doc : List Item) → InOrder p (r ∷ rs) (length doc) → IsEdited (r ∷ rs) r.from (last_end (r.from + r.count) rs) doc
edited_from r [] p doc h = record { middle = r.items; is = refl; order = omega arith; inside = h.1 }
edited_from r (s ∷ rs) p doc h =
    let e = edited_from s rs (r.from + r.count) doc h.1 in
    let k = r.from + r.count in
    let end = last_end (s.from + s.count) rs in
    let long = length-take-le s.from doc (omega (arith, e.order, e.inside)) in
    let whole = e.is ∙ append_assoc (take s.from doc) e.middle (drop end doc) in
    let front = ap (take r.from) whole
    ∙ take-append-le r.from (take s.from doc) (e.middle ++ drop end doc) (omega (arith, long, h.1.0))
    ∙ take-take r.from s.from doc (omega (arith, h.1.0)) in
    let back = ap (drop k) whole ∙ drop-append-le k (take s.from doc) (e.middle ++ drop end doc) (omega (arith, long, h.1.0)) in
    record {
      middle = r.items ++ drop k (take s.from doc) ++ e.middle;
      is = (λ i. front i ++ r.items ++ back i) ∙ joins (take r.from doc) r.items (drop k (take s.from doc)) e.middle (drop end doc);
      order = omega (arith, h.1.0, e.order);
      inside = e.inside;
    }

pub edited : (rs : List Replacement) (doc : List Item) → InOrder 0 rs (length doc) → IsEdited rs (first_from rs) (last_end 0 rs) doc
edited [] doc h = record { middle = []; is = refl; order = omega arith; inside = h }
edited (r ∷ rs) doc h = edited_from r rs 0 doc h

pub record Measures (from end before after : ℕ) : Type 0 where
  pub order : from ≤ end
  pub inside : end ≤ before
  pub room : before ≤ after + (end - from)

pub measures : (rs : List Replacement) (doc out : List Item) → InOrder 0 rs (length doc) → all_replaced rs doc ≡ out → Measures (first_from rs) (last_end 0 rs) (length doc) (length out)
measures rs doc out h made =
    let e = edited rs doc h in
    let a = first_from rs in
    let b = last_end 0 rs in
    let parts = ap length (sym made ∙ e.is) ∙ length-append (take a doc ++ e.middle) (drop b doc) in
    let first = length-append (take a doc) e.middle in
    let front = length-take-le a doc (omega (arith, e.order, e.inside)) in
    let last = length-drop b doc in
    record { order = e.order; inside = e.inside; room = omega (arith, parts, first, last, front, e.order, e.inside) }

pub restores : (rs : List Replacement) (doc out : List Item) (back : Replacement) (n : ℕ) → InOrder 0 rs (length doc) → all_replaced rs doc ≡ out
    → back.from ≡ first_from rs → back.from + n ≡ last_end 0 rs → back.count + length doc ≡ length out + n → back.items ≡ stretch back.from n doc → Restores back out doc
restores rs doc out back n h made from end count items =
    let e = edited rs doc h in
    let a = back.from in
    let is : out ≡ take a doc ++ e.middle ++ drop (a + n) doc = sym made ∙ e.is ∙ (λ i. take (sym from i) doc ++ e.middle ++ drop (sym end i) doc) in
    let inside : a + n ≤ length doc = omega (arith, end, e.inside) in
    let front = length-take-le a doc (omega (arith, inside)) in
    let parts = ap length is ∙ length-append (take a doc ++ e.middle) (drop (a + n) doc) in
    let first = length-append (take a doc) e.middle in
    let last = length-drop (a + n) doc in
    let long : length e.middle ≡ back.count = omega (arith, parts, first, last, front, count, inside) in
    record {
      inside = omega (arith, parts, first, front, long);
      is =
          (λ i. take a (is i) ++ items i ++ drop (a + back.count) (is i))
          ∙ (λ i. take a (append_assoc (take a doc) e.middle (drop (a + n) doc) i) ++ stretch a n doc ++ drop (a + back.count) (take a doc ++ e.middle ++ drop (a + n) doc))
          ∙ (λ i. take_at (take a doc) (e.middle ++ drop (a + n) doc) a front i ++ stretch a n doc ++ drop_at (take a doc ++ e.middle) (drop (a + n) doc) (a + back.count) (omega (arith, first, front, long)) i)
          ∙ append_assoc (take a doc) (stretch a n doc) (drop (a + n) doc)
          ∙ ap (λ l. take a doc ++ l) (ap (λ l. stretch a n doc ++ l) (sym (drop-drop n a doc)) ∙ take-append-drop n (drop a doc))
          ∙ take-append-drop a doc;
    }

-- ---- the places of a list of replacements

one_less : (n : ℕ) → suc (suc n) - 1 ≡ suc (suc n - 1)
one_less n = omega arith

pub end_at : (rs : List Replacement) (p : ℕ) (r : Replacement) → Some r ≡ slice_get rs (length rs - 1) → r.from + r.count ≡ last_end p rs
end_at [] p r e = absurd (cc)
end_at (s ∷ []) p r e = ap (λ (o : Option Replacement). elim o [ None ↦ 0 | Some t ↦ t.from + t.count ]) e
end_at (s ∷ t ∷ rs) p r e = end_at (t ∷ rs) (s.from + s.count) r (e ∙ ap (λ n. slice_get (s ∷ t ∷ rs) n) (one_less (length rs)))

-- ---- copies

next : (l : List Item) (n : ℕ) (x : Item) → Some x ≡ slice_get (drop n l) 0 → take n l ++ x ∷ [] ≡ take (suc n) l
next [] zero x e = absurd (cc)
next [] (suc n) x e = absurd (cc)
next (y ∷ l) zero x e = ap (λ z. z ∷ []) (ap (λ (o : Option Item). elim o [ None ↦ x | Some z ↦ z ]) e)
next (y ∷ l) (suc n) x e = ap (λ k. y ∷ k) (next l n x e)

pub next_taken : (l items more left : List Item) (n : ℕ) (x y : Item) → Some x ≡ slice_get left 0 → left ≡ drop n l → items ≡ take n l → y ≡ x → more ≡ items ++ y ∷ [] → more ≡ take (n + 1) l
next_taken l items more left n x y g e f same h =
    h ∙ (λ i. f i ++ same i ∷ []) ∙ next l n x (g ∙ ap (λ k. slice_get k 0) e) ∙ ap (λ k. take k l) (sym (add-one n))

none : (l : List Item) (n : ℕ) → None ≡ slice_get (drop n l) 0 → n < length l → ⊥
none [] n e h = absurd (omega (arith, h))
none (y ∷ l) zero e h = absurd (cc)
none (y ∷ l) (suc n) e h = none l n e (omega (arith, h))

pub some_left : (l left : List Item) (n : ℕ) → None ≡ slice_get left 0 → left ≡ drop n l → n < length l → ⊥
some_left l left n g e h = none l n (g ∙ ap (λ k. slice_get k 0) e) h
