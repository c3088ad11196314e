-- The wavelets of a run at their places.
--     set_same                what stands at a place is set there
--     moved_there, moved_past the wavelet at a place moves; there is none
--     on_there                so where a call gives what follows
--     same_there              the wavelet at a place is as it was
--     either_there            it moved, or is as it was
use Rattle.std.proofs.Common.{◌≡◌, ◌⊎◌, inl, inr, ◌≤◌, ℕ, zero, suc, List, [], ◌∷◌, length, map, slice_get, slice_set, Option, None, Some, Result, Ok, Err, refl, sym, ap, subst, ◌∙◌, option_map}
use Rattle.std.specs.Result.{IfOk}
use Rattle.std.proofs.lemmas.List.{map-set}
use Rattle.std.proofs.lemmas.Option.{slice_get-map, slice_get_past}
use Rattle.std.proofs.lemmas.Result.{IfOk-weaker}
use Rattle.client_session.specs.Machine.{MachineOf, with_seats, seat_moved, on_place, IsEither}
use Rattle.client_session.specs.Seats.{SeatOf, seat_of}
use Rattle.client_session.specs.declared.seat.Seat.{Seat}

pub set_same : {X : Type 0} (xs : List X) (i : ℕ) (x : X) → slice_get xs i ≡ Some x → slice_set xs i x ≡ xs
set_same [] zero x e = absurd (cc)
set_same [] (suc i) x e = absurd (cc)
set_same (y ∷ xs) zero x e = cc
set_same (y ∷ xs) (suc i) x e = ap (λ l. y ∷ l) (set_same xs i x e)

module _ (m : MachineOf) (ss : List Seat) (i : ℕ) (all : m.seats ≡ map seat_of ss) where
  pub seat_there : (s : Seat) → slice_get ss i ≡ Some s → slice_get m.seats i ≡ Some (seat_of s)
  seat_there s got = ap (λ z. slice_get z i) all ∙ slice_get-map seat_of ss i ∙ ap (option_map seat_of) got

  pub seat_past : length ss ≤ i → slice_get m.seats i ≡ None
  seat_past h = ap (λ z. slice_get z i) all ∙ slice_get-map seat_of ss i ∙ ap (option_map seat_of) (slice_get_past ss i h)

  pub set_seats : (t : Seat) → map seat_of (slice_set ss i t) ≡ slice_set m.seats i (seat_of t)
  set_seats t = map-set seat_of ss i t ∙ ap (λ z. slice_set z i (seat_of t)) (sym all)

  pub same_there : (s t : Seat) → slice_get ss i ≡ Some s → seat_of t ≡ seat_of s → with_seats m (map seat_of (slice_set ss i t)) m.current ≡ m
  same_there s t got e = ap (λ z. with_seats m z m.current) (set_seats t ∙ ap (slice_set m.seats i) e ∙ set_same m.seats i (seat_of s) (seat_there s got))

  module _ {R : Type 0} (g : SeatOf → SeatOf × R) (d : R) where
    pub moved_there : (s t : Seat) (r : R) → slice_get ss i ≡ Some s → (seat_of t, r) ≡ g (seat_of s) → (with_seats m (map seat_of (slice_set ss i t)) m.current, r) ≡ on_place i g d m
    moved_there s t r got is =
        ap (λ z. (with_seats m z m.current, r)) (set_seats t) ∙ ap (λ p. seat_moved m i d (Some p)) is ∙ sym (ap (λ o. seat_moved m i d (option_map g o)) (seat_there s got))

    pub moved_past : length ss ≤ i → (m, d) ≡ on_place i g d m
    moved_past h = sym (ap (λ o. seat_moved m i d (option_map g o)) (seat_past h))

    pub on_there : {E : Type 0} (q : Result R E) (s t : Seat) → slice_get ss i ≡ Some s → IfOk q (λ r. (seat_of t, r) ≡ g (seat_of s)) → IfOk q (λ r. (with_seats m (map seat_of (slice_set ss i t)) m.current, r) ≡ on_place i g d m)
    on_there q s t got h = IfOk-weaker q (λ r. (seat_of t, r) ≡ g (seat_of s)) (λ r. (with_seats m (map seat_of (slice_set ss i t)) m.current, r) ≡ on_place i g d m) (λ r is. moved_there s t r got is) h

    pub either_there : (s t : Seat) → slice_get ss i ≡ Some s → (seat_of t ≡ seat_of s) ⊎ (seat_of t ≡ (g (seat_of s)).0) → IsEither m (on_place i g d m).0 (with_seats m (map seat_of (slice_set ss i t)) m.current)
    either_there s t got (inl h) = inl (same_there s t got h)
    either_there s t got (inr h) =
        inr (ap (λ z. with_seats m z m.current) (set_seats t ∙ ap (slice_set m.seats i) h) ∙ sym (ap (λ o. (seat_moved m i d (option_map g o)).0) (seat_there s got)))
