-- Laws of shapes.
use Rattle.std.proofs.Common.{◌≡◌, ℕ, ◌+◌, ◌-◌, ◌<◌, ◌≤◌, true, ◌==◌, List, [], ◌∷◌, ◌++◌, length, take, get_or, sym, ap, ◌∙◌, arith, add-one}
use Rattle.std.proofs.lemmas.Bool.{and_parts, and_from, eqb-true}
use Rattle.std.proofs.Math.Seq.{take-suc}
use Rattle.doc_items.specs.Balance.{level, Closes, BalancedFrom, Balanced}
use Rattle.doc_items.specs.declared.item.Content.{Content}
use Rattle.doc_items.specs.declared.item.Content.TheVariants.{Character, Start, End}
use Rattle.doc_items.specs.declared.item.Item.{Item}
use Rattle.doc_rope.specs.declared.shape.Shape.{Shape}
use Rattle.doc_rope.specs.Pieces.{joined}
use Rattle.doc_rope.specs.Shapes.{one, meet, shape_of, same_shape, no_elements}
use Rattle.doc_rope.proofs.Laws.{joined_append}

shapes : (a b c d : ℕ) → a ≡ c → b ≡ d → ◌≡◌ {A = Shape} (record { ends = a; starts = b }) (record { ends = c; starts = d })
shapes a b c d e f = λ i. record { ends = e i; starts = f i }

meet_none : (s : Shape) → s ≡ meet no_elements s
meet_none s =
    let e : s.ends ≡ 0 + (s.ends - 0) = omega arith in
    let f : s.starts ≡ (0 - s.ends) + s.starts = omega arith in
    shapes _ _ _ _ e f

none_meet : (s : Shape) → meet s no_elements ≡ s
none_meet s =
    let e : s.ends + (0 - s.starts) ≡ s.ends = omega arith in
    let f : (s.starts - 0) + 0 ≡ s.starts = omega arith in
    shapes _ _ _ _ e f

meet_assoc : (a b c : Shape) → meet a (meet b c) ≡ meet (meet a b) c
meet_assoc a b c =
    let e : a.ends + ((b.ends + (c.ends - b.starts)) - a.starts) ≡ (a.ends + (b.ends - a.starts)) + (c.ends - ((a.starts - b.ends) + b.starts)) = omega arith in
    let f : (a.starts - (b.ends + (c.ends - b.starts))) + ((b.starts - c.ends) + c.starts) ≡ (((a.starts - b.ends) + b.starts) - c.ends) + c.starts = omega arith in
    shapes _ _ _ _ e f

pub shape_append : (xs ys : List Item) → shape_of (xs ++ ys) ≡ meet (shape_of xs) (shape_of ys)
shape_append [] ys = meet_none (shape_of ys)
shape_append (i ∷ xs) ys = ap (meet (one i.content)) (shape_append xs ys) ∙ meet_assoc (one i.content) (shape_of xs) (shape_of ys)

pub shape_next : (items : List Item) (k : ℕ) (i : Item) → k < length items → i ≡ get_or items k i → meet (shape_of (take k items)) (one i.content) ≡ shape_of (take (k + 1) items)
shape_next items k i h e =
    sym (ap shape_of (ap (λ n. take n items) (add-one k) ∙ take-suc items k i h ∙ ap (λ x. take k items ++ x ∷ []) (sym e))
    ∙ shape_append (take k items) (i ∷ []) ∙ ap (meet (shape_of (take k items))) (none_meet (one i.content)))

one_bound : (c : Content) → ((one c).ends ≤ 1) × ((one c).starts ≤ 1)
one_bound (Character x) = (omega arith, omega arith)
one_bound (Start kind m) = (omega arith, omega arith)
one_bound End = (omega arith, omega arith)

pub shape_bound : (items : List Item) → ((shape_of items).ends ≤ length items) × ((shape_of items).starts ≤ length items)
shape_bound [] = (omega arith, omega arith)
shape_bound (i ∷ items) =
    let a = one_bound i.content in
    let b = shape_bound items in
    (omega (arith, a.0, b.0), omega (arith, a.1, b.1))

pub shape_is : (a b : Shape) → same_shape a b ≡ true → a ≡ b
shape_is a b e = let h = and_parts (a.ends == b.ends) (a.starts == b.starts) e in shapes _ _ _ _ (eqb-true a.ends b.ends h.0) (eqb-true a.starts b.starts h.1)

same_number : (n : ℕ) → (n == n) ≡ true
same_number n = grind arith

pub shape_same : (a b : Shape) → a ≡ b → same_shape a b ≡ true
shape_same a b e = ap (same_shape a) (sym e) ∙ and_from (a.ends == a.ends) (a.starts == a.starts) (same_number a.ends) (same_number a.starts)

pub shape_fork : (ls : List (List Item)) (p : List Item) (rs : List (List Item)) → shape_of (joined (ls ++ p ∷ rs)) ≡ meet (shape_of (joined ls)) (meet (shape_of p) (shape_of (joined rs)))
shape_fork ls p rs = ap shape_of (joined_append ls (p ∷ rs)) ∙ shape_append (joined ls) (p ++ joined rs) ∙ ap (meet (shape_of (joined ls))) (shape_append p (joined rs))

-- ---- balance

abbrev pub Levels : ℕ → Shape → Type 0
Levels n s = (s.ends ≤ n) × ((n - s.ends) + s.starts ≡ 0)

levels_from : (n : ℕ) (items : List Item) → BalancedFrom n items → Levels n (shape_of items)
levels_from n [] h = (omega arith, omega (arith, h))
levels_from n (i ∷ items) h = after i.content (levels_from (level i.content n) items h.1) h.0
  where
    after : (c : Content) → Levels (level c n) (shape_of items) → Closes c n → Levels n (meet (one c) (shape_of items))
    after (Character x) l k = (omega (arith, l.0, l.1), omega (arith, l.0, l.1))
    after (Start kind m) l k = (omega (arith, l.0, l.1), omega (arith, l.0, l.1))
    after End l k = (omega (arith, l.0, l.1, k), omega (arith, l.0, l.1, k))

levels_to : (n : ℕ) (items : List Item) → Levels n (shape_of items) → BalancedFrom n items
levels_to n [] h = omega (arith, h.0, h.1)
levels_to n (i ∷ items) h = let b = before i.content h in (b.0, levels_to (level i.content n) items b.1)
  where
    before : (c : Content) → Levels n (meet (one c) (shape_of items)) → Closes c n × Levels (level c n) (shape_of items)
    before (Character x) l = (tt, (omega (arith, l.0, l.1), omega (arith, l.0, l.1)))
    before (Start kind m) l = (tt, (omega (arith, l.0, l.1), omega (arith, l.0, l.1)))
    before End l = (omega (arith, l.0, l.1), (omega (arith, l.0, l.1), omega (arith, l.0, l.1)))

pub balanced_shape : (items : List Item) → (shape_of items).ends ≡ 0 → (shape_of items).starts ≡ 0 → Balanced items
balanced_shape items e f = levels_to 0 items (omega (arith, e), omega (arith, e, f))

pub shape_balanced : (items : List Item) → Balanced items → ((shape_of items).ends ≡ 0) × ((shape_of items).starts ≡ 0)
shape_balanced items b = let l = levels_from 0 items b in (omega (arith, l.0), omega (arith, l.0, l.1))
