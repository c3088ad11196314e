-- Two lists of spans, cut one span more.
--     met_at_end     nothing is left of one list, and so of both
--     cut_more       the common part of both heads is cut
use Rattle.std.proofs.Common.{◌≡◌, ℕ, zero, suc, ◌+◌, ◌-◌, ◌<◌, ◌≤◌, Bool, true, false, cond, ◌||◌, eqb, List, [], ◌∷◌, ◌++◌, map, length, replicate, refl, sym, ap, subst, ◌∙◌, append_assoc, append-nil, arith, inl, inr}
use Rattle.std.proofs.lemmas.Bool.{eqb-true, eqb-false, eq-eqb, ne_eqb, cases_lt}
use Rattle.std.proofs.lemmas.List.{replicate-append-replicate}
use Rattle.doc_items.specs.declared.change.Change.{Change}
use Rattle.annotation_track.specs.declared.spans.Span.{Span}
use Rattle.annotation_track.specs.Spans.{items_of, total, ends, has, is_end}
use Rattle.annotation_track.specs.Meets.{left_of, Alike, count_of, IsMet, IsMeeting}

abbrev pub span : ℕ → List Change → Span
span n c = record { count = n; changes = c }

-- ---- nothing is left

zero_ends : (b : Bool) (n : ℕ) (x y : List ℕ) → b ≡ true → cond b x y ≡ x
zero_ends true n x y e = refl
zero_ends false n x y e = absurd cc

is_zero : (n : ℕ) → n ≡ 0 → eqb n 0 ≡ true
is_zero n e = eq-eqb n 0 e

is_some : (n : ℕ) → 0 < n → eqb n 0 ≡ false
is_some n h = ne_eqb n 0 (λ e. omega (arith, h, e))

nothing_left : (r : List Span) → total r ≡ 0 → Alike r []
nothing_left [] e = record { items = refl; total = refl; ends = λ n. refl }
nothing_left (s ∷ ss) e =
    let none : s.count ≡ 0 = omega (arith, e) in
    let rest = nothing_left ss (omega (arith, e)) in
    record {
      items = ap (λ (k : ℕ). replicate k s.changes ++ items_of ss) none ∙ rest.items;
      total = e;
      ends = λ n. ap (λ b. cond b (ends n ss) ((n + s.count) ∷ ends (n + s.count) ss)) (is_zero s.count none) ∙ rest.ends n;
    }

or_none : (a : Bool) → (a || (false || false)) ≡ a
or_none true = refl
or_none false = refl

pub met_at_end : (first second l r one two : List Span) → Alike l [] → IsMeeting first second l r one two → IsMet first second one two
met_at_end first second l r one two none m =
    let other = nothing_left r (sym m.totals ∙ none.total) in
    record {
      items_one = sym (append-nil (items_of one)) ∙ ap (λ (is : List (List Change)). items_of one ++ is) (sym none.items) ∙ m.items_one;
      items_two = sym (append-nil (items_of two)) ∙ ap (λ (is : List (List Change)). items_of two ++ is) (sym other.items) ∙ m.items_two;
      counts = m.counts;
      places = λ p. sym (or_none (is_end p one)) ∙ (λ i. is_end p one || (has p (sym (none.ends (total one)) i) || has p (sym (other.ends (total one)) i))) ∙ m.places p;
    }

-- ---- one span more

items_more : (one : List Span) (s : Span) → items_of (one ++ s ∷ []) ≡ items_of one ++ replicate s.count s.changes
items_more [] s = append-nil (replicate s.count s.changes)
items_more (o ∷ one) s = ap (λ (is : List (List Change)). replicate o.count o.changes ++ is) (items_more one s) ∙ sym (append_assoc (replicate o.count o.changes) (items_of one) (replicate s.count s.changes))

total_more : (one : List Span) (s : Span) → total (one ++ s ∷ []) ≡ total one + s.count
total_more [] s = omega arith
total_more (o ∷ one) s = omega (arith, total_more one s)

counts_more : (one : List Span) (s : Span) → map count_of (one ++ s ∷ []) ≡ map count_of one ++ s.count ∷ []
counts_more [] s = refl
counts_more (o ∷ one) s = ap (λ (ns : List ℕ). o.count ∷ ns) (counts_more one s)

or_assoc : (a b c : Bool) → ((a || b) || c) ≡ (a || (b || c))
or_assoc true b c = refl
or_assoc false b c = refl

or_off : (b : Bool) → (b || false) ≡ b
or_off true = refl
or_off false = refl

has_more : (p n : ℕ) (one : List Span) (s : Span) → 0 < s.count → has p (ends n (one ++ s ∷ [])) ≡ (has p (ends n one) || eqb p (n + total one + s.count))
has_more p n [] s h =
    ap (λ b. has p (cond b [] ((n + s.count) ∷ []))) (is_some s.count h) ∙ or_off (eqb p (n + s.count)) ∙ ap (λ k. eqb p k) (omega arith)
has_more p n (o ∷ one) s h =
    elim (eqb o.count 0) as (λ b. eqb o.count 0 ≡ b → has p (cond b (ends n (one ++ s ∷ [])) ((n + o.count) ∷ ends (n + o.count) (one ++ s ∷ []))) ≡ (has p (cond b (ends n one) ((n + o.count) ∷ ends (n + o.count) one)) || eqb p (n + (o.count + total one) + s.count))) [
      | true ↦ λ z. has_more p n one s h ∙ ap (λ k. has p (ends n one) || eqb p k) (omega (arith, eqb-true o.count 0 z))
      | false ↦ λ z. ap (λ b. eqb p (n + o.count) || b) (has_more p (n + o.count) one s h ∙ ap (λ k. has p (ends (n + o.count) one) || eqb p k) (omega arith)) ∙ sym (or_assoc (eqb p (n + o.count)) (has p (ends (n + o.count) one)) (eqb p (n + (o.count + total one) + s.count)))
    ] refl

items_cut : (n k : ℕ) (c : List Change) (os : List Span) → k ≤ n → items_of (span n c ∷ os) ≡ replicate k c ++ items_of (span (n - k) c ∷ os)
items_cut n k c os h =
    let parts : k + (n - k) ≡ n = omega (arith, h) in
    ap (λ (j : ℕ). replicate j c ++ items_of os) (sym parts) ∙ ap (λ (is : List (List Change)). is ++ items_of os) (sym (replicate-append-replicate k (n - k) c)) ∙ append_assoc (replicate k c) (replicate (n - k) c) (items_of os)

-- elsewhere the ends stay
ends_cut : (p at n k : ℕ) (c : List Change) (os : List Span) → 0 < k → k ≤ n → eqb p (at + k) ≡ false → has p (ends (at + k) (span (n - k) c ∷ os)) ≡ has p (ends at (span n c ∷ os))
ends_cut p at n k c os some h off =
    ap (λ b. has p (cond b (ends (at + k) os) ((at + k + (n - k)) ∷ ends (at + k + (n - k)) os))) refl
    ∙ elim (eqb (n - k) 0) as (λ b. eqb (n - k) 0 ≡ b → has p (cond b (ends (at + k) os) ((at + k + (n - k)) ∷ ends (at + k + (n - k)) os)) ≡ has p ((at + n) ∷ ends (at + n) os)) [
      | true ↦ λ z.
          let same : at + k ≡ at + n = omega (arith, h, eqb-true (n - k) 0 z) in
          ap (λ b. b || has p (ends (at + k) os)) (sym off) ∙ ap (λ (j : ℕ). has p (j ∷ ends j os)) same
      | false ↦ λ z. ap (λ (j : ℕ). has p (j ∷ ends j os)) (omega (arith, h))
    ] refl
    ∙ ap (λ b. has p (cond b (ends at os) ((at + n) ∷ ends (at + n) os))) (sym (is_some n (omega (arith, some, h))))

-- at the cut, a head that it takes whole ends
ends_at : (p at n : ℕ) (c : List Change) (os : List Span) → 0 < n → eqb p (at + n) ≡ true → has p (ends at (span n c ∷ os)) ≡ true
ends_at p at n c os some on = ap (λ b. has p (cond b (ends at os) ((at + n) ∷ ends (at + n) os))) (is_some n some) ∙ ap (λ b. b || has p (ends (at + n) os)) on

or_left : (a b : Bool) → a ≡ true → (a || b) ≡ true
or_left true b e = refl
or_left false b e = absurd cc

or_right : (a b : Bool) → b ≡ true → (a || b) ≡ true
or_right true b e = refl
or_right false b e = e

-- the place of the cut joins the ends that were cut; it was one of those to come
joined : (e b l r l2 r2 : Bool) → (b ≡ true → (l || r) ≡ true) → (b ≡ false → l2 ≡ l) → (b ≡ false → r2 ≡ r) → ((e || b) || (l2 || r2)) ≡ (e || (l || r))
joined true b l r l2 r2 on x y = refl
joined false true l r l2 r2 on x y = sym (on refl)
joined false false l r l2 r2 on x y = λ i. x refl i || y refl i

pub head_cut : (ss : List Span) (p k : ℕ) (s : Span) (os : List Span) → left_of ss p ≡ s ∷ os → left_of ss (p + k) ≡ span (s.count - k) s.changes ∷ os
head_cut [] p k s os e = absurd cc
head_cut (t ∷ ts) p k s os e =
    let same : span (t.count - p) t.changes ≡ s = ap (λ (l : List Span). elim l [ [] ↦ s | x ∷ xs ↦ x ]) e in
    let rest : ts ≡ os = ap (λ (l : List Span). elim l [ [] ↦ [] | x ∷ xs ↦ xs ]) e in
    (λ i. span (t.count - (p + k)) t.changes ∷ rest i) ∙ ap (λ (j : ℕ). span j t.changes ∷ os) (omega arith) ∙ ap (λ (x : Span). span (x.count - k) x.changes ∷ os) same

apart : (k n : ℕ) → k ≤ n → eqb k n ≡ false → k < n
apart k n h z = elim (cases_lt k n) [
  | inl lt ↦ lt
  | inr le ↦ absurd (eqb-false k n z (omega (arith, h, le)))
]

pub cut_more : (first second l r one two : List Span) (n m k : ℕ) (c d : List Change) (ls rs : List Span) → 0 < k → k ≤ n → k ≤ m → (k < n → k ≡ m)
    → Alike l (span n c ∷ ls) → Alike r (span m d ∷ rs) → IsMeeting first second l r one two
    → IsMeeting first second (span (n - k) c ∷ ls) (span (m - k) d ∷ rs) (one ++ span k c ∷ []) (two ++ span k d ∷ [])
cut_more first second l r one two n m k c d ls rs some kn km whole al ar mt = record {
  items_one = ap (λ (is : List (List Change)). is ++ items_of (span (n - k) c ∷ ls)) (items_more one (span k c)) ∙ append_assoc (items_of one) (replicate k c) (items_of (span (n - k) c ∷ ls))
      ∙ ap (λ (is : List (List Change)). items_of one ++ is) (sym (items_cut n k c ls kn) ∙ sym al.items) ∙ mt.items_one;
  items_two = ap (λ (is : List (List Change)). is ++ items_of (span (m - k) d ∷ rs)) (items_more two (span k d)) ∙ append_assoc (items_of two) (replicate k d) (items_of (span (m - k) d ∷ rs))
      ∙ ap (λ (is : List (List Change)). items_of two ++ is) (sym (items_cut m k d rs km) ∙ sym ar.items) ∙ mt.items_two;
  totals = omega (arith, kn, km, mt.totals, al.total, ar.total);
  counts = counts_more one (span k c) ∙ ap (λ (ns : List ℕ). ns ++ k ∷ []) mt.counts ∙ sym (counts_more two (span k d));
  places = λ p.
      let at = total one in
      let here : at + k ≡ total (one ++ span k c ∷ []) = sym (total_more one (span k c)) in
      ap (λ (j : ℕ). is_end p (one ++ span k c ∷ []) || (has p (ends j (span (n - k) c ∷ ls)) || has p (ends j (span (m - k) d ∷ rs)))) (sym here)
      ∙ ap (λ b. b || (has p (ends (at + k) (span (n - k) c ∷ ls)) || has p (ends (at + k) (span (m - k) d ∷ rs)))) (has_more p 0 one (span k c) some ∙ ap (λ (j : ℕ). is_end p one || eqb p j) (omega arith))
      ∙ joined (is_end p one) (eqb p (at + k)) (has p (ends at (span n c ∷ ls))) (has p (ends at (span m d ∷ rs))) _ _
      (λ on. elim (eqb k n) as (λ b. eqb k n ≡ b → (has p (ends at (span n c ∷ ls)) || has p (ends at (span m d ∷ rs))) ≡ true) [
        | true ↦ λ z. or_left _ _ (ends_at p at n c ls (omega (arith, some, kn)) (ap (λ (j : ℕ). eqb p (at + j)) (sym (eqb-true k n z)) ∙ on))
        | false ↦ λ z. or_right _ _ (ends_at p at m d rs (omega (arith, some, km)) (ap (λ (j : ℕ). eqb p (at + j)) (sym (whole (apart k n kn z))) ∙ on))
      ] refl)
      (λ off. ends_cut p at n k c ls some kn off)
      (λ off. ends_cut p at m k d rs some km off)
      ∙ (λ i. is_end p one || (has p (sym (al.ends at) i) || has p (sym (ar.ends at) i)))
      ∙ mt.places p;
}
