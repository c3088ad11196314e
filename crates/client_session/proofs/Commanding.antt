-- Commands of the current wavelet.
--     here_there, here_past   by what is found at its place
--     leaves, goes_on, stops  a command that ends the run, one that doesn't, and one that want of memory cut short

use Rattle.std.proofs.Common.{◌≡◌, ◌≤◌, inl, inr, ℕ, true, false, List, length, map, slice_get, slice_set, Option, None, Some, Result, sym, ap, subst, ◌∙◌, refl}
use Rattle.std.specs.Result.{IfOk, OnErr}
use Rattle.std.proofs.lemmas.Result.{IfOk-weaker, on_err_weaker}
use Rattle.client_commands.specs.declared.command.Command.{Command}
use Rattle.client_session.specs.Machine.{MachineOf, with_seats, no_wavelet, Acted, IsHere, IsFoundHere, IsHereAt, IsDone, finished, finished_unless, IsCommanded, IsHalted, IsCutShort}
use Rattle.client_session.specs.Seats.{seat_of}
use Rattle.client_session.specs.declared.acts.Acts.{Acts}
use Rattle.client_session.specs.declared.seat.Seat.{Seat}
use Rattle.client_session.proofs.Placing.{set_seats, seat_there, seat_past}

module _ (m : MachineOf) (c : Command) (ss : List Seat) (i : ℕ) (all : m.seats ≡ map seat_of ss) where
  pub here_past : length ss ≤ i → IsHereAt m (Some i) c (m, no_wavelet)
  here_past h = subst (λ o. IsFoundHere m i c o (m, no_wavelet)) (sym (seat_past m ss i all h)) refl

  pub here_there : {E : Type 0} (q : Result Acts E) (s t : Seat) → slice_get ss i ≡ Some s → IfOk q (λ a. IsHere (seat_of s) c (seat_of t, a))
      → IfOk q (λ a. IsHereAt m (Some i) c (with_seats m (map seat_of (slice_set ss i t)) m.current, a))
  here_there q s t got h =
      IfOk-weaker q (λ a. IsHere (seat_of s) c (seat_of t, a)) (λ a. IsHereAt m (Some i) c (with_seats m (map seat_of (slice_set ss i t)) m.current, a))
      (λ a x. subst (λ o. IsFoundHere m i c o (with_seats m (map seat_of (slice_set ss i t)) m.current, a)) (sym (seat_there m ss i all s got))
      ((seat_of t, a), x, ap (λ z. (with_seats m z m.current, a)) (set_seats m ss i all t))) h

-- ---- a whole command

module _ (m : MachineOf) (c d : Option Command) (p : Acted) (same : c ≡ d) (done : IsDone m c p) where
  done_so : IsDone m d p
  done_so = subst (λ o. IsDone m o p) same done

  pub leaves : p.1.ends ≡ true → IsCommanded m d p
  leaves e = (p, done_so, sym (ap (λ b. finished_unless b p) e))

  pub goes_on : {E : Type 0} (q : Result Acts E) (n : MachineOf) → p.1.ends ≡ false → IfOk q (λ a. (n, a) ≡ finished true p) → IfOk q (λ a. IsCommanded m d (n, a))
  goes_on q n e h = IfOk-weaker q (λ a. (n, a) ≡ finished true p) (λ a. IsCommanded m d (n, a)) (λ a x. (p, done_so, x ∙ sym (ap (λ b. finished_unless b p) e))) h

  pub stops : {E : Type 0} (q : Result Acts E) (n : MachineOf) → OnErr q (IsHalted p.0 n) → OnErr q (IsCutShort m d n)
  stops q n h = on_err_weaker q (λ x. inr (p, done_so, x)) h
