-- A title, item by item.
--     one_more      an item that the title goes on with
--     whole         an item before which it is whole
--     all_read      after the last item
--     title_absent, title_refused    there is no document
use Rattle.std.proofs.Common.{◌≡◌, ◌≤◌, ◌<◌, ◌+◌, ◌-◌, ◌==◌, ◌||◌, not, ℕ, suc, zero, Bool, true, false, cond, List, [], ◌∷◌, ◌++◌, length, take, drop, slice_get, Some, None, refl, sym, ap, subst, ◌∙◌, arith, append-nil, append_assoc, true≢false}
use Rattle.std.proofs.lemmas.Bool.Decides.{Decides-eqb, nat_tests}
use Rattle.doc_items.specs.declared.item.Content.{Content}
use Rattle.doc_items.specs.declared.item.Content.TheVariants.{Character, Start, End}
use Rattle.doc_items.specs.declared.item.Item.{Item}
use Rattle.conversation.proofs.Readings.{next_item}
use Rattle.doc_items.proofs.Maps.{or_false}
use Rattle.std.proofs.lemmas.Bool.{ne_eqb}
use Rattle.doc_items.specs.Maps.{Key}
use Rattle.wave_base.specs.Faults.{IsNameFault}
use Rattle.wave_base.specs.Grammar.{is_id}
use Rattle.wave_base.specs.declared.fault.BaseFault.{BaseFault}
use Rattle.wave_base.specs.declared.fault.BaseFault.TheVariants.{BadName}
use Rattle.wavelet_op.specs.States.{State, document_of, kept}
use Rattle.wave_index.specs.Blips.{named_items}
use Rattle.wave_index.specs.Titles.{ends_at, shown, begun_after, line_from, max_title, title, is_begun, is_whole}

-- what is left of a title after some of its characters
abbrev pub rest_of : List ℕ → List Item → List ℕ
rest_of t items = take (max_title - length t) (line_from (is_begun t) items)

not_begun : (t : List ℕ) (c : ℕ) → is_begun (t ++ c ∷ []) ≡ true
not_begun [] c = refl
not_begun (x ∷ t) c = ap not (ne_eqb (suc (length (t ++ c ∷ []))) 0 (λ d. absurd (omega (arith, d))))

length_more : (t : List ℕ) (c : ℕ) → length (t ++ c ∷ []) ≡ length t + 1
length_more [] c = refl
length_more (x ∷ t) c = omega (arith, length_more t c)

take_some : (n : ℕ) (c : ℕ) (l : List ℕ) → 0 < n → take n (c ∷ l) ≡ c ∷ take (n - 1) l
take_some zero c l h = absurd (omega (arith, h))
take_some (suc n) c l h = let e : n ≡ suc n - 1 = omega arith in ap (λ m. c ∷ take m l) e

goes_on : (b : Bool) (x y : List ℕ) → b ≡ false → cond b x y ≡ y
goes_on true x y e = absurd (true≢false e)
goes_on false x y e = refl

ends : (b : Bool) (x y : List ℕ) → b ≡ true → cond b x y ≡ x
ends true x y e = refl
ends false x y e = absurd (true≢false (sym e))

step : (t : List ℕ) (c : Content) (items : List Item) → length t ≤ max_title → (length t == max_title) ≡ false → t ++ take (max_title - length t) (shown c ++ line_from (begun_after (is_begun t) c) items) ≡ (t ++ shown c) ++ rest_of (t ++ shown c) items
step t (Character c) items h e =
    let some : length t < max_title = grind (arith, nat_tests, h, e) in
    let left : (max_title - length t) - 1 ≡ max_title - length (t ++ c ∷ []) = omega (arith, length_more t c) in
    let room : 0 < max_title - length t = omega (arith, some) in
    ap (λ l. t ++ l) (take_some (max_title - length t) c (line_from true items) room)
    ∙ (λ i. t ++ c ∷ take (left i) (line_from (sym (not_begun t c) i) items))
    ∙ sym (append_assoc t (c ∷ []) (rest_of (t ++ c ∷ []) items))
step t (Start kind m) items h e = (λ i. sym (append-nil t) i ++ take (max_title - length (sym (append-nil t) i)) (line_from (is_begun (sym (append-nil t) i)) items))
step t End items h e = (λ i. sym (append-nil t) i ++ take (max_title - length (sym (append-nil t) i)) (line_from (is_begun (sym (append-nil t) i)) items))

longer : (t : List ℕ) (c : Content) → length t ≤ max_title → (length t == max_title) ≡ false → length (t ++ shown c) ≤ max_title
longer t (Character c) h e = let some : length t < max_title = grind (arith, nat_tests, h, e) in omega (arith, length_more t c, some)
longer t (Start kind m) h e = subst (λ (l : List ℕ). length l ≤ max_title) (sym (append-nil t)) h
longer t End h e = subst (λ (l : List ℕ). length l ≤ max_title) (sym (append-nil t)) h

pub still_short : (t : List ℕ) (i : Item) → length t ≤ max_title → is_whole t i.content ≡ false → length (t ++ shown i.content) ≤ max_title
still_short t i h e = longer t i.content h (or_false _ _ e).0

pub one_more : (t : List ℕ) (items : List Item) (k : ℕ) (i : Item) → slice_get items k ≡ Some i → length t ≤ max_title → is_whole t i.content ≡ false
    → (t ++ shown i.content) ++ rest_of (t ++ shown i.content) (drop (k + 1) items) ≡ t ++ rest_of t (drop k items)
one_more t items k i g h e =
    let parts = or_false _ _ e in
    sym (step t i.content (drop (k + 1) items) h parts.0)
    ∙ ap (λ l. t ++ take (max_title - length t) l) (sym (goes_on (ends_at (is_begun t) i.content) [] _ parts.1))
    ∙ ap (λ l. t ++ rest_of t l) (sym (next_item items k i g))

nothing : (t l : List ℕ) → length t ≡ max_title → t ++ take (max_title - length t) l ≡ t
nothing t l e =
    let none : max_title - length t ≡ 0 = omega (arith, e) in
    ap (λ n. t ++ take n l) none ∙ append-nil t

abbrev pub nothing_left : List ℕ
nothing_left = []

take_nil : (n : ℕ) → take n nothing_left ≡ nothing_left
take_nil zero = refl
take_nil (suc n) = refl

pub whole : (t : List ℕ) (items : List Item) (k : ℕ) (i : Item) → slice_get items k ≡ Some i → is_whole t i.content ≡ true → t ++ rest_of t (drop k items) ≡ t
whole t items k i g e = go (length t == max_title) refl
  where
    go : (b : Bool) → (length t == max_title) ≡ b → t ++ rest_of t (drop k items) ≡ t
    go true is = nothing t (line_from (is_begun t) (drop k items)) ((Decides-eqb (length t) max_title).0 is)
    go false is =
        let over : ends_at (is_begun t) i.content ≡ true = sym (ap (λ b. b || ends_at (is_begun t) i.content) is) ∙ e in
        ap (λ l. t ++ rest_of t l) (next_item items k i g)
        ∙ ap (λ l. t ++ take (max_title - length t) l) (ends (ends_at (is_begun t) i.content) [] _ over)
        ∙ ap (λ l. t ++ l) (take_nil (max_title - length t)) ∙ append-nil t

pub all_read : (t : List ℕ) (items : List Item) → items ≡ [] → t ++ rest_of t items ≡ t
all_read t items e = ap (λ l. t ++ rest_of t l) e ∙ ap (λ l. t ++ l) (take_nil (max_title - length t)) ∙ append-nil t

-- ---- documents that aren't there

title_nil : title [] ≡ nothing_left
title_nil = take_nil max_title

pub title_absent : (items : List Item) → kept items ≡ None → nothing_left ≡ title items
title_absent [] e = sym title_nil
title_absent (i ∷ items) e = absurd (cc)

title_unnamed : (s : State) (id : Key) → is_id id ≡ false → nothing_left ≡ title (named_items s id)
title_unnamed s id e = sym (ap (λ b. title (cond b (document_of s id) [])) e ∙ title_nil)

pub title_refused : (s : State) (id x : Key) (f : BaseFault) → x ≡ id → f ≡ BadName → IsNameFault (is_id x) f → nothing_left ≡ title (named_items s id)
title_refused s id x f e g h = title_unnamed s id (ap is_id (sym e) ∙ subst (λ (y : BaseFault). IsNameFault (is_id x) y) g h)
