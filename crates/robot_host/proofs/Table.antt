-- A robot's part in a turn, among all robots.
--     seat_here              a robot that is there has its box
--     turned_robot           its part, after it was shown deltas
--     through_robot          it went through all deltas, if it is there still
--     not_turned             where it was shown nothing
--     kept_of                what a filter keeps
--     robots_more            one robot more
--     fresh_more             it was shown nothing
use Rattle.std.proofs.Common.{◌≡◌, ℕ, zero, suc, ◌<◌, arith, Bool, true, false, List, [], ◌∷◌, ◌++◌, length, map, get_or, slice_get, slice_set, Option, Some, unwrap_or, Result, Ok, Err, OnOk, OnErr, refl, sym, ap, subst, ◌∙◌, append-nil}
use Rattle.std.specs.Option.{option_map, option_map_or}
use Rattle.std.specs.declared.alloc.Global.{Global}
use Rattle.std.specs.declared.dyn_box.DynBox.{DynBox}
use Rattle.std.proofs.lemmas.List.{map-append, map-set, set-get_or, get_or-set_same, length-set, length-map}
use Rattle.std.specs.List.{filter}
use Rattle.std.specs.List.Retain.{IsFiltered}
use Rattle.std.proofs.lemmas.Fn.{filter_same}
use Rattle.std.proofs.lemmas.Option.{slice_get-map, slice_get-get_or, get_or_from_slice_get, unwrap_or-slice_get}
use Rattle.doc_op.proofs.Applying.{no_value, same_Some}
use Rattle.doc_items.specs.Maps.{Key}
use Rattle.delta_history.specs.Histories.{HistoryOf}
use Rattle.robot_host.specs.declared.edit.RobotEdit.{RobotEdit}
use Rattle.robot_host.specs.declared.seat.Seat.{Seat}
use Rattle.robot_host.specs.Calls.{Call}
use Rattle.robot_host.specs.declared.seat.Seated.TheVariants.{Here}
use Rattle.robot_host.specs.Hosts.{AreFresh, added}
use Rattle.robot_host.specs.Places.{AreNext}
use Rattle.robot_host.specs.Robots.{RobotOf, robot_by, is_here, last_of, addresses}
use Rattle.robot_host.specs.Showing.{HasShownSome, HasShownAll}
use Rattle.robot_host.specs.Turns.{is_there, number_of, IsOneTurn, IsThrough}
use Rattle.robot_host.specs.Views.{view}
use Rattle.robot_host.proofs.Turning.{IsTurned, turn_some, turn_all, none_turned}

get_read : {A : Type 0} (xs : List A) (r : ℕ) (e : A) → r < length xs → e ≡ get_or xs r e → slice_get xs r ≡ Some e
get_read xs r e w is = slice_get-get_or xs r e w ∙ ap Some (sym is)

set_read : {A : Type 0} (xs : List A) (r : ℕ) (x : A) → r < length xs → slice_get (slice_set xs r x) r ≡ Some x
set_read xs r x w = slice_get-get_or (slice_set xs r x) r x (subst (λ k. r < k) (sym (length-set xs r x)) w) ∙ ap Some (get_or-set_same xs r x x w)

pub there_at : {A : Type 0} (xs : List A) (r : ℕ) → r < length xs → (x : A) × (slice_get xs r ≡ Some x)
there_at [] r w = absurd (omega (arith, w))
there_at (x ∷ xs) zero w = (x, refl)
there_at (x ∷ xs) (suc r) w = there_at xs r (omega (arith, w))

pub fresh_more : (robots : List RobotOf) (a : Key) (calls : Option (List Call)) → AreFresh robots → AreFresh (robots ++ added a calls ∷ [])
fresh_more [] a calls fresh zero s e = subst (λ (z : RobotOf). z.calls ≡ z.before) (same_Some e) refl
fresh_more [] a calls fresh (suc r) s e = no_value e
fresh_more (x ∷ xs) a calls fresh zero s e = fresh 0 s e
fresh_more (x ∷ xs) a calls fresh (suc r) s e = fresh_more xs a calls (λ q. fresh (suc q)) r s e

pub number_read : (ns : List ℕ) (r n : ℕ) → r < length ns → n ≡ get_or ns r n → n ≡ number_of ns r
number_read ns r n w is = sym (ap (λ o. unwrap_or o 0) (get_read ns r n w is))

module _ {V : Type 0} {T : V → Type 0} (calls : DynBox V Global T → Option (List Call)) where
  abbrev pub robots : List (Seat V T) → List RobotOf
  robots seats = map (robot_by calls) seats

  -- the addresses of the seats themselves
  pub seat_addresses : (seats : List (Seat V T)) → map (λ s. s.address) seats ≡ addresses (robots seats)
  seat_addresses [] = refl
  seat_addresses (s ∷ seats) = ap (λ z. s.address ∷ z) (seat_addresses seats)

  robot_at : (seats : List (Seat V T)) (r : ℕ) (seat : Seat V T) → slice_get seats r ≡ Some seat → slice_get (robots seats) r ≡ Some (robot_by calls seat)
  robot_at seats r seat at = slice_get-map (robot_by calls) seats r ∙ ap (option_map (robot_by calls)) at

  pub seat_here : (seats : List (Seat V T)) (r : ℕ) (seat : Seat V T) → slice_get seats r ≡ Some seat → is_there (robots seats) r ≡ true → is_here seat.robot ≡ true
  seat_here seats r seat at there = sym (ap (λ o. option_map_or (λ (s : RobotOf). s.here) o false) (robot_at seats r seat at)) ∙ there

  one_turn : (seats : List (Seat V T)) (r : ℕ) (seat seat' : Seat V T) (h : HistoryOf) (ns : List ℕ) (m : ℕ) (es es' : List RobotEdit) → slice_get seats r ≡ Some seat
      → IsTurned (addresses (robots seats)) h r (robot_by calls seat) (robot_by calls seat') (number_of ns r) m es es' → IsOneTurn (addresses (robots seats)) h r (robots seats) (robots (slice_set seats r seat')) ns (slice_set ns r m) es es'
  one_turn seats r seat seat' h ns m es es' at turned = record {
    before = robot_by calls seat;
    after = robot_by calls seat';
    number = m;
    added = turned.added;
    was = robot_at seats r seat at;
    seats = map-set (robot_by calls) seats r seat';
    numbers = refl;
    turn = turned.turn;
    edits = turned.edits;
  }

  pub turned_robot : {E : Type 0} (seats : List (Seat V T)) (r : ℕ) (d e seat' : Seat V T) (h : HistoryOf) (ns : List ℕ) (from now m : ℕ) (places : List ℕ) (es es' : List RobotEdit) (result : Result (Unit {0}) E)
      → r < length seats → r < length ns → is_there (robots seats) r ≡ true → e ≡ get_or seats r e → from ≡ get_or ns r from → now ≡ get_or ns r now → AreNext (map (λ s. s.address) seats) (get_or seats r e).address h (view (map (λ s. s.address) seats) (get_or seats r e).address h from) places
      → OnOk result (HasShownAll h r places now (robot_by calls (get_or seats r d)) (robot_by calls seat') m es es') → OnErr result (HasShownSome h r places now (robot_by calls (get_or seats r d)) (robot_by calls seat') m es es')
      → IsOneTurn (addresses (robots seats)) h r (robots seats) (robots (slice_set seats r seat')) ns (slice_set ns r m) es es'
  turned_robot {E = E} seats r d e seat' h ns from now m places es es' result inside counted there is_seat is_from is_now next all some =
      let at : slice_get seats r ≡ Some e = get_read seats r e inside is_seat in
      let seat : get_or seats r d ≡ e = get_or_from_slice_get seats r e d at in
      let here = seat_here seats r e at there in
      let start : from ≡ number_of ns r = number_read ns r from counted is_from in
      let same : now ≡ number_of ns r = number_read ns r now counted is_now in
      let first : AreNext (addresses (robots seats)) e.address h (view (addresses (robots seats)) e.address h (number_of ns r)) places = subst (λ n. AreNext (addresses (robots seats)) e.address h (view (addresses (robots seats)) e.address h n) places) start (subst (λ (z : Seat V T). AreNext (addresses (robots seats)) z.address h (view (addresses (robots seats)) z.address h from) places) (sym is_seat) (subst (λ names. AreNext names (get_or seats r e).address h (view names (get_or seats r e).address h from) places) (seat_addresses seats) next)) in
      go result all some
      (λ shown. one_turn seats r e seat' h ns m es es' at (turn_all (addresses (robots seats)) h r places (number_of ns r) m (robot_by calls e) (robot_by calls seat') es es' here first (subst (λ n. HasShownAll h r places n (robot_by calls e) (robot_by calls seat') m es es') same (subst (λ z. HasShownAll h r places now (robot_by calls z) (robot_by calls seat') m es es') seat shown))))
      (λ shown. one_turn seats r e seat' h ns m es es' at (turn_some (addresses (robots seats)) h r places (number_of ns r) m (robot_by calls e) (robot_by calls seat') es es' here first (subst (λ n. HasShownSome h r places n (robot_by calls e) (robot_by calls seat') m es es') same (subst (λ z. HasShownSome h r places now (robot_by calls z) (robot_by calls seat') m es es') seat shown))))
    where
      go : {P Q R : Type 0} (r : Result (Unit {0}) E) → OnOk r P → OnErr r Q → (P → R) → (Q → R) → R
      go (Ok u) p q f g = f p
      go (Err e) p q f g = g q

  pub through_robot : {E : Type 0} (seats : List (Seat V T)) (r : ℕ) (s : RobotOf) (seat' : Seat V T) (h : HistoryOf) (ns : List ℕ) (n m : ℕ) (places : List ℕ) (es es' : List RobotEdit) (result : Result (Unit {0}) E)
      → r < length seats → r < length ns → OnOk result (HasShownAll h r places n s (robot_by calls seat') m es es') → OnOk result (IsThrough h r (robots (slice_set seats r seat')) (slice_set ns r m))
  through_robot seats r s seat' h ns n m places es es' (Err e) inside counted all = tt
  through_robot seats r s seat' h ns n m places es es' (Ok u) inside counted all = λ t at here.
      let is : robot_by calls seat' ≡ t = same_Some (sym (set_read (robots seats) r (robot_by calls seat') (subst (λ k. r < k) (sym (length-map seats (robot_by calls))) inside)) ∙ ap (λ z. slice_get z r) (sym (map-set (robot_by calls) seats r seat')) ∙ at) in
      ap (λ o. unwrap_or o 0) (set_read ns r m counted) ∙ (all.through (ap (λ (z : RobotOf). z.here) is ∙ here)).1

  pub not_turned : (seats : List (Seat V T)) (r : ℕ) (h : HistoryOf) (ns : List ℕ) (es : List RobotEdit) → (e : Seat V T) → slice_get seats r ≡ Some e → IsOneTurn (addresses (robots seats)) h r (robots seats) (robots seats) ns ns es es
  not_turned seats r h ns es e at = record {
    before = robot_by calls e;
    after = robot_by calls e;
    number = number_of ns r;
    added = [];
    was = robot_at seats r e at;
    seats = sym (ap (slice_set (robots seats) r) (sym (get_or_from_slice_get (robots seats) r (robot_by calls e) (robot_by calls e) (robot_at seats r e at))) ∙ set-get_or (robots seats) r (robot_by calls e));
    numbers = sym (ap (slice_set ns r) (unwrap_or-slice_get ns r 0) ∙ set-get_or ns r 0);
    turn = none_turned (addresses (robots seats)) h r (number_of ns r) (robot_by calls e);
    edits = sym (append-nil es);
  }

-- ---- the seats as a list

pub kept_of : {X F : Type 0} {R : F → X → Bool → F → Type 0} {f : F} {xs ys : List X} → IsFiltered R f xs ys → (test : X → Bool) → ((x : X) (b : Bool) (f' : F) → R f x b f' → (b ≡ test x) × (f' ≡ f)) → ys ≡ filter test xs
kept_of {R = R} {f = f} {xs = xs} {ys = ys} filtered test says = filter_same R test f says xs ys filtered

pub robots_more : {V : Type 0} {T : V → Type 0} (calls : DynBox V Global T → Option (List Call)) (seats seats' : List (Seat V T)) (seat : Seat V T) (b : DynBox V Global T) (a : List ℕ) → seats' ≡ seats ++ seat ∷ [] → seat.address ≡ a → seat.first.value ≡ b → seat.robot ≡ Here b → map (robot_by calls) seats' ≡ map (robot_by calls) seats ++ added a (calls b) ∷ []
robots_more calls seats seats' seat b a is address first robot =
    let one : robot_by calls seat ≡ added a (calls b) = λ i. record { address = address i; here = is_here (robot i); before = calls (first i); calls = calls (last_of (robot i)) } in
    ap (map (robot_by calls)) is ∙ map-append (robot_by calls) seats (seat ∷ []) ∙ ap (λ z. map (robot_by calls) seats ++ z ∷ []) one
