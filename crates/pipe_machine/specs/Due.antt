-- Whom a turn may have something for.
--     is_open n s             the session of a seat has the wavelet open
--     is_due d i s            the seat at this place is due
--     due_among d i ss        the places of the due among these, of which the first has this place
--     due_at i o              whom there may be something for after the reply to the session there, where this wavelet may have changed
--     is_told c s             the session of a seat was sent all that there is of what it has open, as the copies are
--     are_told c ss           the session of each seat was sent all in this way
--     AreToldFrom c i j ss    each session from the place i up to j was sent all
--     IsDueAlone c d ss       each session that isn't due was sent all
--     AreTheDue c i ps ss     these places ascend, and from i on each session that isn't at one of them was sent all
--     reach i ps              the place after the last of these, or i
use Rattle.std.specs.Prelude.{◌≡◌, ℕ, ◌+◌, ◌<◌, ◌≤◌, ◌==◌, Bool, true, false, ◌||◌, cond, List, [], ◌∷◌, ◌++◌, length, slice_get, Option, None, Some, is_some}
use Rattle.std.specs.List.{list_all}
use Rattle.doc_items.specs.Maps.{Key}
use Rattle.session_core.specs.Access.{Shown}
use Rattle.session_core.specs.Current.{are_sent}
use Rattle.session_core.specs.Rules.{place_of}
use Rattle.pipe_machine.specs.declared.due.Due.{Due}
use Rattle.pipe_machine.specs.declared.due.Due.TheVariants.{Nobody, Seat as OwnSeat, Openers, Everybody}
use Rattle.pipe_machine.specs.declared.seats.Seat.{Seat}

abbrev pub is_open : Key → Seat → Bool
is_open n s = is_some (place_of n s.session.openings)

abbrev pub is_due : Due → ℕ → Seat → Bool
is_due Nobody i s = false
is_due (OwnSeat own) i s = i == own
is_due (Openers own name) i s = (i == own) || is_open name s
is_due Everybody i s = true

abbrev pub due_among : Due → ℕ → List Seat → List ℕ
due_among d i [] = []
due_among d i (s ∷ ss) = cond (is_due d i s) (i ∷ []) [] ++ due_among d (i + 1) ss

abbrev pub due_at : ℕ → Option Key → Due
due_at own None = OwnSeat own
due_at own (Some name) = Openers own name

abbrev pub is_told : Shown → Seat → Bool
is_told c s = are_sent c s.session

abbrev pub are_told : Shown → List Seat → Bool
are_told c ss = list_all (is_told c) ss

abbrev pub AreToldFrom : Shown → ℕ → ℕ → List Seat → Type 0
AreToldFrom c i j ss = (k : ℕ) (s : Seat) → i ≤ k → k < j → slice_get ss k ≡ Some s → is_told c s ≡ true

abbrev pub IsDueAlone : Shown → Due → List Seat → Type 0
IsDueAlone c due ss = (k : ℕ) (s : Seat) → slice_get ss k ≡ Some s → is_due due k s ≡ false → is_told c s ≡ true

abbrev pub AreTheDue : Shown → ℕ → List ℕ → List Seat → Type 0
AreTheDue c i [] ss = AreToldFrom c i (length ss) ss
AreTheDue c i (p ∷ ps) ss = (i ≤ p) × (p < length ss) × AreToldFrom c i p ss × AreTheDue c (p + 1) ps ss

abbrev pub reach : ℕ → List ℕ → ℕ
reach i [] = i
reach i (p ∷ ps) = reach (p + 1) ps
