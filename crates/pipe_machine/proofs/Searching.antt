-- A seat is found by its name.
--     before_place, after_place     whether a seat is before the place of a name
--     ordered_names                  order is that of the names alone
--     ordered_either, ordered_with   seats stay in order
use Rattle.std.proofs.Common.{◌≡◌, ◌+◌, ◌<◌, ◌≤◌, ℕ, zero, suc, Bool, true, false, cond, List, [], ◌∷◌, slice_get, slice_set, get_or, length, Some, Result, Ok, Err, OnOk, OnErr, refl, sym, ap, subst, ◌∙◌, arith, true≢false, Less, Equal, Greater}
use Rattle.std.specs.Cmp.Lexicographic.{slice_cmp}
use Rattle.std.specs.Ordering.{nat_cmp, is_lt, is_gt, ordering_reverse}
use Rattle.std.specs.declared.cmp.Ordering.{Ordering}
use Rattle.std.proofs.lemmas.Bool.{and_parts, and_from}
use Rattle.doc_items.specs.Maps.{Key}
use Rattle.delta_history.specs.Copying.{AscendFrom, AreAscending}
use Rattle.session_core.specs.declared.session.Session.{Session}
use Rattle.wavelet_shelf.proofs.Names.{turned, lower, any}
use Rattle.pipe_machine.specs.declared.seats.Seat.{Seat}
use Rattle.pipe_machine.specs.Seats.{place_in, seated, ascend_from, are_ordered}
use Rattle.pipe_machine.proofs.Ordering.{seat_names, next_place, seated_ascends}
use Rattle.pipe_machine.proofs.Placing.{some_same}
use Rattle.pipe_machine.proofs.Serving.{any_default}

is_less : (o : Ordering) → is_lt o ≡ true → o ≡ Less
is_less Less e = refl
is_less Equal e = absurd (true≢false (sym e))
is_less Greater e = absurd (true≢false (sym e))

is_more : (o : Ordering) → is_gt o ≡ true → o ≡ Greater
is_more Less e = absurd (true≢false (sym e))
is_more Equal e = absurd (true≢false (sym e))
is_more Greater e = refl

to_from : (n : Key) (ss : List Seat) → ascend_from n ss ≡ true → AscendFrom n (seat_names ss)
to_from n [] e = tt
to_from n (s ∷ ss) e = let p = and_parts _ _ e in (is_less (slice_cmp nat_cmp n s.name) p.0, to_from s.name ss p.1)

to_ascending : (ss : List Seat) → are_ordered ss ≡ true → AreAscending (seat_names ss)
to_ascending [] e = tt
to_ascending (s ∷ ss) e = to_from s.name ss e

of_from : (n : Key) (ss : List Seat) → AscendFrom n (seat_names ss) → ascend_from n ss ≡ true
of_from n [] a = refl
of_from n (s ∷ ss) a = and_from _ _ (ap is_lt a.0) (of_from s.name ss a.1)

of_ascending : (ss : List Seat) → AreAscending (seat_names ss) → are_ordered ss ≡ true
of_ascending [] a = refl
of_ascending (s ∷ ss) a = of_from s.name ss a

pub ordered_names : (ss ts : List Seat) → seat_names ts ≡ seat_names ss → are_ordered ss ≡ true → are_ordered ts ≡ true
ordered_names ss ts e o = of_ascending ts (subst AreAscending (sym e) (to_ascending ss o))

pub ordered_either : {A E : Type 0} (n : Key) (ss ts : List Seat) (r : Result A E) → OnOk r (ts ≡ seated n ss) → OnErr r (ts ≡ ss) → are_ordered ss ≡ true → are_ordered ts ≡ true
ordered_either n ss ts (Ok a) e f o = ap are_ordered e ∙ of_ascending (seated n ss) (seated_ascends n ss (to_ascending ss o))
ordered_either n ss ts (Err x) e f o = ap are_ordered f ∙ o

pub same_names : (i : ℕ) (ss : List Seat) (s : Seat) → s.name ≡ (get_or ss i s).name → seat_names (slice_set ss i s) ≡ seat_names ss
same_names i [] s e = refl
same_names zero (x ∷ ss) s e = ap (λ n. n ∷ seat_names ss) e
same_names (suc i) (x ∷ ss) s e = ap (λ l. x.name ∷ l) (same_names i ss s e)

-- another session at the place of a seat
pub ordered_with : (ss : List Seat) (i : ℕ) (s : Seat) (x : Session) → i < length ss → s ≡ get_or ss i s → are_ordered ss ≡ true → are_ordered (slice_set ss i (record { name = s.name; session = x })) ≡ true
ordered_with ss i s x within is o =
    let new : Seat = record { name = s.name; session = x } in
    ordered_names ss (slice_set ss i new) (same_names i ss new (ap (λ z. z.name) (is ∙ any_default ss i s new within))) o

-- ---- the place of a name

first_below : (m : Key) (ss : List Seat) (k : ℕ) (s : Seat) → AscendFrom m (seat_names ss) → slice_get ss k ≡ Some s → slice_cmp nat_cmp m s.name ≡ Less
first_below m [] k s a e = absurd cc
first_below m (x ∷ ss) zero s a e = ap (λ z. slice_cmp nat_cmp m z.name) (sym (some_same x s e)) ∙ a.0
first_below m (x ∷ ss) (suc k) s a e = first_below m ss k s (lower m x.name (seat_names ss) a.0 a.1) e

-- a name above one is above those before it
above_first : (n : Key) (x : Seat) (ss : List Seat) (k : ℕ) (s : Seat) → AscendFrom x.name (seat_names ss) → slice_get ss k ≡ Some s → is_gt (slice_cmp nat_cmp n s.name) ≡ true → is_gt (slice_cmp nat_cmp n x.name) ≡ true
above_first n x ss k s a e gt =
    let less : slice_cmp nat_cmp s.name n ≡ Less = turned n s.name ∙ ap ordering_reverse (is_more (slice_cmp nat_cmp n s.name) gt) in
    let first : slice_cmp nat_cmp x.name n ≡ Less = (lower x.name s.name (n ∷ []) (first_below x.name ss k s a e) (less, tt)).0 in
    ap is_gt (turned x.name n ∙ ap ordering_reverse first)

on_greater : (n : Key) (x : Seat) (ss : List Seat) → is_gt (slice_cmp nat_cmp n x.name) ≡ true → place_in n 0 (x ∷ ss) ≡ suc (place_in n 0 ss)
on_greater n x ss gt = ap (λ b. cond b (place_in n (0 + 1) ss) 0) gt ∙ next_place n ss

pub before_place : (n : Key) (ss : List Seat) (k : ℕ) (s : Seat) → are_ordered ss ≡ true → slice_get ss k ≡ Some s → is_gt (slice_cmp nat_cmp n s.name) ≡ true → k < place_in n 0 ss
before_place n ss k s o = go ss k (to_ascending ss o)
  where
    go : (xs : List Seat) (j : ℕ) → AreAscending (seat_names xs) → slice_get xs j ≡ Some s → is_gt (slice_cmp nat_cmp n s.name) ≡ true → j < place_in n 0 xs
    go [] j a e gt = absurd cc
    go (x ∷ xs) zero a e gt =
        let first = on_greater n x xs (ap (λ z. is_gt (slice_cmp nat_cmp n z.name)) (some_same x s e) ∙ gt) in
        omega (arith, first)
    go (x ∷ xs) (suc j) a e gt =
        let first = on_greater n x xs (above_first n x xs j s a e gt) in
        let rest = go xs j (any x.name (seat_names xs) a) e gt in
        omega (arith, first, rest)

pub after_place : (n : Key) (ss : List Seat) (k : ℕ) (s : Seat) → slice_get ss k ≡ Some s → is_gt (slice_cmp nat_cmp n s.name) ≡ false → place_in n 0 ss ≤ k
after_place n [] k s e gt = absurd cc
after_place n (x ∷ ss) zero s e gt = ap_le (ap (λ b. cond b (place_in n (0 + 1) ss) 0) (ap (λ z. is_gt (slice_cmp nat_cmp n z.name)) (some_same x s e) ∙ gt))
  where
    ap_le : {m : ℕ} → m ≡ 0 → m ≤ 0
    ap_le h = omega (arith, h)
after_place n (x ∷ ss) (suc k) s e gt = go (is_gt (slice_cmp nat_cmp n x.name)) refl (after_place n ss k s e gt)
  where
    go : (b : Bool) → is_gt (slice_cmp nat_cmp n x.name) ≡ b → place_in n 0 ss ≤ k → place_in n 0 (x ∷ ss) ≤ suc k
    go true h l = let first = on_greater n x ss h in omega (arith, first, l)
    go false h l = let none : place_in n 0 (x ∷ ss) ≡ 0 = ap (λ b. cond b (place_in n (0 + 1) ss) 0) h in omega (arith, none)

pub place_within : (n : Key) (ss : List Seat) → place_in n 0 ss ≤ length ss
place_within n [] = omega arith
place_within n (x ∷ ss) = go (is_gt (slice_cmp nat_cmp n x.name)) refl (place_within n ss)
  where
    go : (b : Bool) → is_gt (slice_cmp nat_cmp n x.name) ≡ b → place_in n 0 ss ≤ length ss → place_in n 0 (x ∷ ss) ≤ suc (length ss)
    go true h l = let first = on_greater n x ss h in omega (arith, first, l)
    go false h l = let none : place_in n 0 (x ∷ ss) ≡ 0 = ap (λ b. cond b (place_in n (0 + 1) ss) 0) h in omega (arith, none)
