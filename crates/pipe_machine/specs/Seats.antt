-- The sessions of a pipe, in byte order of their names.
--     Seat                   as it is declared: a session with its name
--     begun n                the seat of a new session
--     place_in n i ss        the place of the first seat whose name isn't before this one, where the first of them has the place i
--     is_at n i ss           the seat at that place has the name
--     seated n ss            the seats, with a new one of the name where there is none
--     seat_in i ss           the seat at a place
--     with_session i x ss    it has another session
--     seats_sent c ss        what each is sent of the copies, in order
--     seats_after c ss       the seats then
--     are_ordered ss         their names ascend in byte order
--     is_idle ws             nothing waits
--     IsPlain s              a session of a pipe: it has no domain, and speaks for none, and none of its submissions waits
--     IsPlainSeat s          the session of a seat is plain
--     AsksAsUser s r         only a session with a user asks for a wavelet to be opened
use Rattle.std.specs.Prelude.{◌≡◌, ℕ, ◌+◌, List, [], ◌∷◌, ◌++◌, take, drop, slice_get, slice_set, slice_index_or, map, Bool, true, false, ◌&&◌, cond, None, is_some}
use Rattle.std.specs.Coded.{Coded-set, coded_bool, ×_prop}
use Rattle.std.specs.Option.{option_map_or}
use Rattle.std.specs.Ordering.{nat_cmp, is_lt, is_gt}
use Rattle.std.specs.Cmp.Lexicographic.{slice_cmp}
use Rattle.doc_items.specs.Maps.{Key, same_text}
use Rattle.session_core.specs.declared.session.Session.{Session}
use Rattle.session_core.specs.declared.session.Waiting.{Waiting}
use Rattle.session_core.specs.declared.request.Request.{Request}
use Rattle.session_core.specs.declared.request.Request.TheVariants as ask
use Rattle.session_core.specs.Access.{Shown}
use Rattle.session_core.specs.Rules.{fresh, has_user, has_peer}
use Rattle.session_core.specs.Deliveries.{delivered, after_delivery}
use Rattle.pipe_machine.specs.declared.seats.Seat.{Seat}
use Rattle.pipe_machine.specs.Lines.{Sent, sent_to}

abbrev pub begun : Key → Seat
begun n = record { name = n; session = fresh None [] }

abbrev pub place_in : Key → ℕ → List Seat → ℕ
place_in n i [] = i
place_in n i (s ∷ ss) = cond (is_gt (slice_cmp nat_cmp n s.name)) (place_in n (i + 1) ss) i

abbrev pub is_at : Key → ℕ → List Seat → Bool
is_at n i ss = option_map_or (λ s. same_text n s.name) (slice_get ss i) false

abbrev pub inserted : Key → ℕ → List Seat → List Seat
inserted n i ss = cond (is_at n i ss) ss (take i ss ++ begun n ∷ drop i ss)

abbrev pub seated : Key → List Seat → List Seat
seated n ss = inserted n (place_in n 0 ss) ss

abbrev pub seat_in : ℕ → List Seat → Seat
seat_in i ss = slice_index_or ss i (begun [])

abbrev pub with_session : ℕ → Session → List Seat → List Seat
with_session i x ss = slice_set ss i (record { name = (seat_in i ss).name; session = x })

-- ---- order

abbrev pub ascend_from : Key → List Seat → Bool
ascend_from n [] = true
ascend_from n (s ∷ ss) = is_lt (slice_cmp nat_cmp n s.name) && ascend_from s.name ss

abbrev pub are_ordered : List Seat → Bool
are_ordered [] = true
are_ordered (s ∷ ss) = ascend_from s.name ss

-- ---- deliveries

abbrev pub seat_after : Shown → Seat → Seat
seat_after c s = record { name = s.name; session = after_delivery c s.session }

abbrev pub seats_sent : Shown → List Seat → List Sent
seats_sent c [] = []
seats_sent c (s ∷ ss) = map (sent_to s.name) (delivered c s.session) ++ seats_sent c ss

abbrev pub seats_after : Shown → List Seat → List Seat
seats_after c ss = map (seat_after c) ss

-- ---- sessions of a pipe

abbrev pub is_idle : List Waiting → Bool
is_idle [] = true
is_idle (w ∷ ws) = false

pub record IsPlain (s : Session) : Type 0 where
  pub nowhere : is_some s.domain ≡ false
  pub no_peer : has_peer s ≡ false
  pub idle : is_idle s.waiting ≡ true

-- the same, as three facts
abbrev pub IsPlainSeat : Seat → Type 0
IsPlainSeat s = (is_some s.session.domain ≡ false) × ((has_peer s.session ≡ false) × (is_idle s.session.waiting ≡ true))

pub IsPlainSeat-prop : (s : Seat) → IsProp (IsPlainSeat s)
IsPlainSeat-prop s = ×_prop (Coded-set coded_bool _ _) (×_prop (Coded-set coded_bool _ _) (Coded-set coded_bool _ _))

abbrev pub AsksAsUser : Session → Request → Type 0
AsksAsUser s (ask.Reply m) = Unit {0}
AsksAsUser s (ask.Attach name from) = has_user s ≡ true
AsksAsUser s (ask.Submit name submission) = Unit {0}
AsksAsUser s (ask.Have name from) = Unit {0}
