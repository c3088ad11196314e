-- Sessions that were sent all that there is.
--     is_sent v o           a wavelet that may be shown was sent up to its head, to which nothing is missing
--     is_opening_sent c u o an open wavelet of which there is a copy was sent so
--     are_sent c s          all wavelets that a user has open were sent so
--     IsWholeTo c u o       nothing of the open wavelet is missing at its head
use Rattle.std.specs.Prelude.{◌≡◌, ℕ, Bool, true, false, ◌&&◌, ◌==◌, List, [], ◌∷◌, Option, Some, None, IfSome}
use Rattle.std.specs.List.{list_all}
use Rattle.doc_items.specs.Maps.{Key}
use Rattle.wavelet_op.specs.Deltas.{DeltaOf}
use Rattle.delta_history.specs.Histories.{HistoryOf, head_of}
use Rattle.session_core.specs.declared.session.Party.{Party}
use Rattle.session_core.specs.declared.session.Party.TheVariants.{Nobody, User, Domain}
use Rattle.session_core.specs.declared.session.Opening.{Opening}
use Rattle.session_core.specs.declared.session.Session.{Session}
use Rattle.session_core.specs.Access.{Shown, seen_by}
use Rattle.session_core.specs.Deliveries.{since}

abbrev pub is_none_left : List DeltaOf → Bool
is_none_left [] = true
is_none_left (d ∷ ds) = false

abbrev pub is_sent : ℕ → Option HistoryOf → Bool
is_sent v None = false
is_sent v (Some h) = (v == (head_of h).at.version) && is_none_left (since v h)

abbrev pub is_opening_sent : Shown → Key → Opening → Option HistoryOf → Bool
is_opening_sent c user o None = true
is_opening_sent c user o (Some h) = is_sent o.sent (seen_by c o.name user)

abbrev pub are_sent_to : Shown → Key → List Opening → Bool
are_sent_to c user os = list_all (λ o. is_opening_sent c user o (c.copy o.name)) os

abbrev pub are_sent_for : Shown → Session → Party → Bool
are_sent_for c s Nobody = true
are_sent_for c s (User user) = are_sent_to c user s.openings
are_sent_for c s (Domain domain) = true

abbrev pub are_sent : Shown → Session → Bool
are_sent c s = are_sent_for c s s.party

abbrev pub IsWholeTo : Shown → Key → Opening → Type 0
IsWholeTo c user o = IfSome (seen_by c o.name user) (λ h. since (head_of h).at.version h ≡ [])
