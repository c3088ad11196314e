-- Two lists side by side: what a rule and a test make of them is what they make of their maps.
use Rattle.std.proofs.Common.{◌≡◌, Bool, true, false, cond, List, [], ◌∷◌, refl, sym, ap, ◌∙◌, true≢false, is_some, is_eq, ◌&&◌, Ordering, Less, Equal, Greater, Option, None, Some}
use Rattle.std.specs.Ordering.{nat_cmp, is_lt}
use Rattle.std.specs.Cmp.{both_ways}
use Rattle.std.specs.Cmp.Lexicographic.{slice_cmp}
use Rattle.std.proofs.lemmas.Bool.{and_parts}
use Rattle.std.specs.FinMap.{get}
use Rattle.std.specs.FinMap.Entries.{by_order}
use Rattle.doc_items.specs.Maps.{Key, entry, merge, matches}
use Rattle.doc_items.specs.Changes.{KeyChange}
use Rattle.doc_items.proofs.Maps.{alike, get-merge, matches_at, matches_all}
use Rattle.doc_items.proofs.ChangeSets.{at, at-is}
use Rattle.change_view.specs.Lists.{Entry, alone, alone_second, met, pairs, Meeting, made, all_pass}
use Rattle.change_view.proofs.Rising.{below, rising, found, map_of, get_rising, at_itself, greater_less, below_rising, find_below, find_head, rising_tail, front, below_entry, rising_entry}

abbrev Make : Type 0
Make = Option KeyChange → Option KeyChange → Option KeyChange

-- ---- keys

below_made : (F : Make) (k : Key) (es fs : List Entry) → below k es ≡ true → below k fs ≡ true → below k (made F (pairs es fs)) ≡ true
below_made F k [] [] p q = refl
below_made F k [] (f ∷ fs) p q =
    let b = and_parts (is_lt (slice_cmp nat_cmp k f.0)) (below k fs) q in
    below_entry k f.0 (F None (Some f.1)) (made F (pairs [] fs)) b.0 (below_made F k [] fs refl b.1)
below_made F k (e ∷ es) [] p q =
    let a = and_parts (is_lt (slice_cmp nat_cmp k e.0)) (below k es) p in
    below_entry k e.0 (F (Some e.1) None) (made F (pairs es [])) a.0 (below_made F k es [] a.1 refl)
below_made F k (e ∷ es) (f ∷ fs) p q =
    let a = and_parts (is_lt (slice_cmp nat_cmp k e.0)) (below k es) p in
    let b = and_parts (is_lt (slice_cmp nat_cmp k f.0)) (below k fs) q in
    elim (slice_cmp nat_cmp e.0 f.0) as (λ o. below k (made F (by_order o (alone e ∷ pairs es (f ∷ fs)) (met e f ∷ pairs es fs) (alone_second f ∷ pairs (e ∷ es) fs))) ≡ true) [
      | Less ↦ below_entry k e.0 (F (Some e.1) None) (made F (pairs es (f ∷ fs))) a.0 (below_made F k es (f ∷ fs) a.1 q)
      | Equal ↦ below_entry k e.0 (F (Some e.1) (Some f.1)) (made F (pairs es fs)) a.0 (below_made F k es fs a.1 b.1)
      | Greater ↦ below_entry k f.0 (F None (Some f.1)) (made F (pairs (e ∷ es) fs)) b.0 (below_made F k (e ∷ es) fs p b.1)
    ]

tied_at : (e f : Key) → slice_cmp nat_cmp e f ≡ Equal → at e f ≡ true
tied_at e f t = ap (λ o. is_equal o) t
  where
    is_equal : Ordering → Bool
    is_equal o = is_eq o

below_head : (e : Entry) (es : List Entry) → rising (e ∷ es) ≡ true → below e.0 es ≡ true
below_head e es h = (and_parts (below e.0 es) (rising es) h).0

pub rising_made : (F : Make) (es fs : List Entry) → rising es ≡ true → rising fs ≡ true → rising (made F (pairs es fs)) ≡ true
rising_made F [] [] p q = refl
rising_made F [] (f ∷ fs) p q = rising_entry f.0 (F None (Some f.1)) (made F (pairs [] fs)) (below_made F f.0 [] fs refl (below_head f fs q)) (rising_made F [] fs p (rising_tail f fs q))
rising_made F (e ∷ es) [] p q = rising_entry e.0 (F (Some e.1) None) (made F (pairs es [])) (below_made F e.0 es [] (below_head e es p) refl) (rising_made F es [] (rising_tail e es p) q)
rising_made F (e ∷ es) (f ∷ fs) p q =
    elim (slice_cmp nat_cmp e.0 f.0) as (λ o. slice_cmp nat_cmp e.0 f.0 ≡ o → rising (made F (by_order o (alone e ∷ pairs es (f ∷ fs)) (met e f ∷ pairs es fs) (alone_second f ∷ pairs (e ∷ es) fs))) ≡ true) [
      | Less ↦ λ t. rising_entry e.0 (F (Some e.1) None) (made F (pairs es (f ∷ fs))) (below_made F e.0 es (f ∷ fs) (below_head e es p) (below_rising e.0 f fs (ap is_lt t) q)) (rising_made F es (f ∷ fs) (rising_tail e es p) q)
      | Equal ↦ λ t. rising_entry e.0 (F (Some e.1) (Some f.1)) (made F (pairs es fs)) (below_made F e.0 es fs (below_head e es p) (ap (λ k. below k fs) (at-is e.0 f.0 (tied_at e.0 f.0 t)) ∙ below_head f fs q)) (rising_made F es fs (rising_tail e es p) (rising_tail f fs q))
      | Greater ↦ λ t. rising_entry f.0 (F None (Some f.1)) (made F (pairs (e ∷ es) fs)) (below_made F f.0 (e ∷ es) fs (below_rising f.0 e es (greater_less e.0 f.0 t) p) (below_head f fs q)) (rising_made F (e ∷ es) fs p (rising_tail f fs q))
    ] refl

-- ---- values

own : {X : Type 0} (b : Bool) (x : X) (r : Option X) → b ≡ true → Some x ≡ cond b (Some x) r
own b x r t = sym (ap (λ c. cond c (Some x) r) t)

other : {X : Type 0} (b : Bool) (x : X) (r : Option X) → b ≡ false → r ≡ cond b (Some x) r
other b x r t = sym (ap (λ c. cond c (Some x) r) t)

pub find_made : (F : Make) (q : Key) (es fs : List Entry) → F None None ≡ None → rising es ≡ true → rising fs ≡ true → found q (made F (pairs es fs)) ≡ F (found q es) (found q fs)
find_made F q [] [] z p r = sym z
find_made F q [] (f ∷ fs) z p r =
    let rest = find_made F q [] fs z p (rising_tail f fs r) in
    front q f.0 (F None (Some f.1)) (made F (pairs [] fs)) (F None (found q (f ∷ fs)))
    (λ t. rest ∙ ap (F None) (find_head q f fs r t) ∙ z)
    (λ t. ap (F None) (own (at q f.0) f.1 (found q fs) t))
    (λ t. rest ∙ ap (F None) (other (at q f.0) f.1 (found q fs) t))
find_made F q (e ∷ es) [] z p r =
    let rest = find_made F q es [] z (rising_tail e es p) r in
    front q e.0 (F (Some e.1) None) (made F (pairs es [])) (F (found q (e ∷ es)) None)
    (λ t. rest ∙ ap (λ x. F x None) (find_head q e es p t) ∙ z)
    (λ t. ap (λ x. F x None) (own (at q e.0) e.1 (found q es) t))
    (λ t. rest ∙ ap (λ x. F x None) (other (at q e.0) e.1 (found q es) t))
find_made F q (e ∷ es) (f ∷ fs) z p r =
    elim (slice_cmp nat_cmp e.0 f.0) as (λ o. slice_cmp nat_cmp e.0 f.0 ≡ o → found q (made F (by_order o (alone e ∷ pairs es (f ∷ fs)) (met e f ∷ pairs es fs) (alone_second f ∷ pairs (e ∷ es) fs))) ≡ F (found q (e ∷ es)) (found q (f ∷ fs))) [
      | Less ↦ λ o.
          let rest = find_made F q es (f ∷ fs) z (rising_tail e es p) r in
          let none : at q e.0 ≡ true → found q (f ∷ fs) ≡ None = λ t. ap (λ k. found k (f ∷ fs)) (at-is q e.0 t) ∙ find_below e.0 (f ∷ fs) (below_rising e.0 f fs (ap is_lt o) r) in
          front q e.0 (F (Some e.1) None) (made F (pairs es (f ∷ fs))) (F (found q (e ∷ es)) (found q (f ∷ fs)))
          (λ t. rest ∙ (λ i. F (find_head q e es p t i) (none t i)) ∙ z)
          (λ t. λ i. F (own (at q e.0) e.1 (found q es) t i) (sym (none t) i))
          (λ t. rest ∙ ap (λ x. F x (found q (f ∷ fs))) (other (at q e.0) e.1 (found q es) t))
      | Equal ↦ λ o.
          let rest = find_made F q es fs z (rising_tail e es p) (rising_tail f fs r) in
          let same : at q f.0 ≡ at q e.0 = ap (at q) (sym (at-is e.0 f.0 (tied_at e.0 f.0 o))) in
          front q e.0 (F (Some e.1) (Some f.1)) (made F (pairs es fs)) (F (found q (e ∷ es)) (found q (f ∷ fs)))
          (λ t. rest ∙ (λ i. F (find_head q e es p t i) (find_head q f fs r (same ∙ t) i)) ∙ z)
          (λ t. λ i. F (own (at q e.0) e.1 (found q es) t i) (own (at q f.0) f.1 (found q fs) (same ∙ t) i))
          (λ t. rest ∙ (λ i. F (other (at q e.0) e.1 (found q es) t i) (other (at q f.0) f.1 (found q fs) (same ∙ t) i)))
      | Greater ↦ λ o.
          let rest = find_made F q (e ∷ es) fs z p (rising_tail f fs r) in
          let none : at q f.0 ≡ true → found q (e ∷ es) ≡ None = λ t. ap (λ k. found k (e ∷ es)) (at-is q f.0 t) ∙ find_below f.0 (e ∷ es) (below_rising f.0 e es (greater_less e.0 f.0 o) p) in
          front q f.0 (F None (Some f.1)) (made F (pairs (e ∷ es) fs)) (F (found q (e ∷ es)) (found q (f ∷ fs)))
          (λ t. rest ∙ (λ i. F (none t i) (find_head q f fs r t i)) ∙ z)
          (λ t. λ i. F (sym (none t) i) (own (at q f.0) f.1 (found q fs) t i))
          (λ t. rest ∙ ap (F (found q (e ∷ es))) (other (at q f.0) f.1 (found q fs) t))
    ] refl

pub made_merge : (F : Make) (es fs : List Entry) → F None None ≡ None → rising es ≡ true → rising fs ≡ true → map_of (made F (pairs es fs)) ≡ merge F (map_of es) (map_of fs)
made_merge F es fs z p r = alike _ _ (λ q.
    get_rising (made F (pairs es fs)) q (rising_made F es fs p r) ∙ find_made F q es fs z p r
    ∙ (λ i. F (sym (get_rising es q p) i) (sym (get_rising fs q r) i)) ∙ sym (get-merge F (map_of es) (map_of fs) q z))

-- ---- tests

-- something where the test fails
abbrev unless : Bool → Option KeyChange
unless true = None
unless false = Some (record { old = None; new = None })

abbrev failing : (Option KeyChange → Option KeyChange → Bool) → Make
failing p a b = unless (p a b)

abbrev is_nil : List Entry → Bool
is_nil [] = true
is_nil (e ∷ es) = false

pass_made : (p : Option KeyChange → Option KeyChange → Bool) (ms : List Meeting) → all_pass p ms ≡ is_nil (made (failing p) ms)
pass_made p [] = refl
pass_made p (m ∷ ms) = elim (p m.first m.second) as (λ b. (b && all_pass p ms) ≡ is_nil (entry m.key (unless b) (made (failing p) ms))) [ true ↦ pass_made p ms | false ↦ refl ]

nil_found : (es : List Entry) (q : Key) → is_nil es ≡ true → found q es ≡ None
nil_found [] q h = refl
nil_found (e ∷ es) q h = absurd (true≢false (sym h))

found_nil : (es : List Entry) → ((q : Key) → found q es ≡ None) → is_nil es ≡ true
found_nil [] h = refl
found_nil (e ∷ es) h = absurd (true≢false (ap is_some (sym (ap (λ b. cond b (Some e.1) (found e.0 es)) (at_itself e.0)) ∙ h e.0)))

passes_at : (b : Bool) → unless b ≡ None → b ≡ true
passes_at true h = refl
passes_at false h = absurd (true≢false (ap is_some h))

fails_not : (b : Bool) → b ≡ true → unless b ≡ None
fails_not b h = ap unless h

pub pass_matches : (p : Option KeyChange → Option KeyChange → Bool) (es fs : List Entry) → p None None ≡ true → rising es ≡ true → rising fs ≡ true → all_pass p (pairs es fs) ≡ matches p (map_of es) (map_of fs)
pass_matches p es fs z h k =
    let made_at : (q : Key) → found q (made (failing p) (pairs es fs)) ≡ failing p (get (map_of es) q) (get (map_of fs) q) =
    λ q. find_made (failing p) q es fs (fails_not _ z) h k ∙ (λ i. failing p (sym (get_rising es q h) i) (sym (get_rising fs q k) i)) in
    pass_made p (pairs es fs) ∙ both_ways _ _
    (λ e. matches_all p (map_of es) (map_of fs) (λ q. passes_at _ (sym (made_at q) ∙ nil_found _ q e)))
    (λ e. found_nil _ (λ q. made_at q ∙ fails_not _ (matches_at p (map_of es) (map_of fs) q z e)))
