-- Where a seat is.
--     seated_within     the seat of a name is among the seats
--     seated_name       and has that name
--     plain_either, plain_with, plain_seats, plain_here     each session stays one of a pipe
use Rattle.std.proofs.Common.{◌≡◌, ◌+◌, ◌<◌, ◌≤◌, ℕ, zero, suc, Bool, true, false, cond, List, [], ◌∷◌, ◌++◌, length, take, drop, slice_set, get_or, Result, Ok, Err, OnOk, OnErr, refl, sym, subst, arith, true≢false}
use Rattle.std.specs.Cmp.Lexicographic.{slice_cmp, bytes_decides}
use Rattle.std.specs.Ordering.{nat_cmp, is_gt}
use Rattle.doc_items.specs.Maps.{Key}
use Rattle.pipe_machine.specs.declared.seats.Seat.{Seat}
use Rattle.std.specs.List.{All, AllByRecursion}
use Rattle.std.proofs.lemmas.List.Elements.{All-from_recursion, recursion_from_All, All-append, All-cons, All-take, All-drop, All-set}
use Rattle.pipe_machine.specs.Seats.{begun, place_in, is_at, inserted, seated, seat_in, IsPlain, IsPlainSeat}

pub record IsSeat (n : Key) (i : ℕ) (ss : List Seat) : Type 0 where
  pub within : i < length ss
  pub named : (seat_in i ss).name ≡ n

behind : (n : Key) (i : ℕ) (s : Seat) (ss : List Seat) → IsSeat n i ss → IsSeat n (suc i) (s ∷ ss)
behind n i s ss h = record { within = omega (arith, h.within); named = h.named }

there : (n : Key) (i : ℕ) (ss : List Seat) → is_at n i ss ≡ true → IsSeat n i ss
there n i [] e = absurd (true≢false (sym e))
there n zero (s ∷ ss) e = record { within = omega arith; named = sym ((bytes_decides n s.name).0 e) }
there n (suc i) (s ∷ ss) e = behind n i s ss (there n i ss e)

middle : (n : Key) (i : ℕ) (ss : List Seat) → i ≤ length ss → IsSeat n i (take i ss ++ begun n ∷ drop i ss)
middle n zero ss h = record { within = omega arith; named = refl }
middle n (suc i) [] h = absurd (omega (arith, h))
middle n (suc i) (s ∷ ss) h = behind n i s (take i ss ++ begun n ∷ drop i ss) (middle n i ss (omega (arith, h)))

is_seat : (n : Key) (i : ℕ) (ss : List Seat) → i ≤ length ss → IsSeat n i (inserted n i ss)
is_seat n i ss h = go (is_at n i ss) refl
  where
    go : (b : Bool) → is_at n i ss ≡ b → IsSeat n i (cond b ss (take i ss ++ begun n ∷ drop i ss))
    go true e = there n i ss e
    go false e = middle n i ss h

place_bound : (n : Key) (i : ℕ) (ss : List Seat) → place_in n i ss ≤ i + length ss
place_bound n i [] = omega arith
place_bound n i (s ∷ ss) = go (is_gt (slice_cmp nat_cmp n s.name)) (place_bound n (i + 1) ss)
  where
    go : (b : Bool) → place_in n (i + 1) ss ≤ (i + 1) + length ss → cond b (place_in n (i + 1) ss) i ≤ i + length (s ∷ ss)
    go true h = omega (arith, h)
    go false h = omega arith

seated_seat : (n : Key) (ss : List Seat) → IsSeat n (place_in n 0 ss) (seated n ss)
seated_seat n ss = is_seat n (place_in n 0 ss) ss (omega (arith, place_bound n 0 ss))

pub seated_within : (n : Key) (ss : List Seat) → place_in n 0 ss < length (seated n ss)
seated_within n ss = (seated_seat n ss).within

pub seated_name : (n : Key) (ss : List Seat) → (seat_in (place_in n 0 ss) (seated n ss)).name ≡ n
seated_name n ss = (seated_seat n ss).named

-- ---- each session is one of a pipe

put_plain : (n : Key) (i : ℕ) (ss : List Seat) → All IsPlainSeat ss → All IsPlainSeat (inserted n i ss)
put_plain n i ss all = go (is_at n i ss)
  where
    go : (b : Bool) → All IsPlainSeat (cond b ss (take i ss ++ begun n ∷ drop i ss))
    go true = all
    go false = All-append IsPlainSeat (take i ss) (begun n ∷ drop i ss) (All-take IsPlainSeat i ss all) (All-cons IsPlainSeat (begun n) (drop i ss) (refl, (refl, refl)) (All-drop IsPlainSeat i ss all))

pub plain_either : {A E : Type 0} (n : Key) (ss ts : List Seat) (r : Result A E) → OnOk r (ts ≡ seated n ss) → OnErr r (ts ≡ ss) → AllByRecursion IsPlainSeat ss → AllByRecursion IsPlainSeat ts
plain_either n ss ts (Ok a) e f all = subst (AllByRecursion IsPlainSeat) (sym e) (recursion_from_All IsPlainSeat (seated n ss) (put_plain n (place_in n 0 ss) ss (All-from_recursion IsPlainSeat ss all)))
plain_either n ss ts (Err x) e f all = subst (AllByRecursion IsPlainSeat) (sym f) all

pub plain_with : (ss : List Seat) (i : ℕ) (s : Seat) → IsPlain s.session → AllByRecursion IsPlainSeat ss → AllByRecursion IsPlainSeat (slice_set ss i s)
plain_with ss i s p all = recursion_from_All IsPlainSeat (slice_set ss i s) (All-set IsPlainSeat ss i s (p.nowhere, (p.no_peer, p.idle)) (All-from_recursion IsPlainSeat ss all))

pub plain_seats : (ss : List Seat) → All (λ s. IsPlain s.session) ss → AllByRecursion IsPlainSeat ss
plain_seats ss all = recursion_from_All IsPlainSeat ss (λ k d h. let p = all k d h in (p.nowhere, (p.no_peer, p.idle)))

pub plain_here : (ss : List Seat) (i : ℕ) (s : Seat) → i < length ss → s ≡ get_or ss i s → AllByRecursion IsPlainSeat ss → IsPlain s.session
plain_here ss i s within is all =
    let p = subst IsPlainSeat (sym is) (All-from_recursion IsPlainSeat ss all i s within) in
    record { nowhere = p.0; no_peer = p.1.0; idle = p.1.1 }
