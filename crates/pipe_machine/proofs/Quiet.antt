-- A session that was sent all has nothing new.
--     IsQuiet c s      nothing is sent to the session of the seat, and it stays
--     quiet_seat       so it is with one that was sent all
use Rattle.std.proofs.Common.{◌≡◌, ◌==◌, ℕ, true, false, List, [], ◌∷◌, ◌++◌, Option, None, Some, refl, sym, ap, ◌∙◌, arith, true≢false}
use Rattle.std.proofs.lemmas.Bool.{and_parts}
use Rattle.std.proofs.lemmas.Bool.Decides.{nat_tests}
use Rattle.doc_items.specs.Maps.{Key}
use Rattle.wavelet_op.specs.Deltas.{DeltaOf}
use Rattle.delta_history.specs.Histories.{HistoryOf, head_of}
use Rattle.session_core.specs.declared.session.Party.{Party}
use Rattle.session_core.specs.declared.session.Party.TheVariants.{Nobody, User, Domain}
use Rattle.session_core.specs.declared.session.Opening.{Opening}
use Rattle.session_core.specs.declared.session.Session.{Session}
use Rattle.session_core.specs.Access.{Shown, seen_by}
use Rattle.session_core.specs.Current.{is_none_left, is_sent, is_opening_sent, are_sent_to, are_sent_for, are_sent}
use Rattle.session_core.specs.Deliveries.{since, updates, outcomes_sent, still_waiting, opening_news, opening_sent, openings_sent, opening_left, opening_kept, openings_kept, delivered_to, delivered, after_for, after_delivery}
use Rattle.session_core.specs.Rules.{party_is_peer}
use Rattle.pipe_machine.specs.declared.seats.Seat.{Seat}
use Rattle.pipe_machine.specs.Due.{is_told}
use Rattle.pipe_machine.specs.Seats.{seat_after, IsPlain}
use Rattle.pipe_machine.proofs.Plain.{none_idle}

pub record IsQuiet (c : Shown) (s : Seat) : Type 0 where
  pub sent : delivered c s.session ≡ []
  pub after : seat_after c s ≡ s

none_left : (ds : List DeltaOf) → is_none_left ds ≡ true → ds ≡ []
none_left [] e = refl
none_left (d ∷ ds) e = absurd (true≢false (sym e))

same_number : (m n : ℕ) → (m == n) ≡ true → m ≡ n
same_number m n e = grind (arith, nat_tests)

module _ (c : Shown) (user : Key) where
  news_none : (o : Opening) (seen : Option HistoryOf) → is_sent o.sent seen ≡ true → opening_news o seen ≡ []
  news_none o None e = absurd (true≢false (sym e))
  news_none o (Some g) e = ap (updates o.name) (none_left (since o.sent g) (and_parts _ _ e).1)

  opening_none : (o : Opening) (copy : Option HistoryOf) → is_opening_sent c user o copy ≡ true → opening_sent c user o copy ≡ []
  opening_none o None e = refl
  opening_none o (Some h) e = news_none o (seen_by c o.name user) e

  openings_none : (os : List Opening) → are_sent_to c user os ≡ true → openings_sent c user os ≡ []
  openings_none [] e = refl
  openings_none (o ∷ os) e =
      let p = and_parts _ _ e in
      ap (λ l. l ++ openings_sent c user os) (opening_none o (c.copy o.name) p.0) ∙ openings_none os p.1

  left_same : (o : Opening) (seen : Option HistoryOf) → is_sent o.sent seen ≡ true → opening_left o seen ≡ o ∷ []
  left_same o None e = absurd (true≢false (sym e))
  left_same o (Some g) e = ap (λ v. record { name = o.name; sent = v } ∷ []) (sym (same_number o.sent (head_of g).at.version (and_parts _ _ e).0))

  kept_same : (o : Opening) (copy : Option HistoryOf) → is_opening_sent c user o copy ≡ true → opening_kept c user o copy ≡ o ∷ []
  kept_same o None e = refl
  kept_same o (Some h) e = left_same o (seen_by c o.name user) e

  all_same : (os : List Opening) → are_sent_to c user os ≡ true → openings_kept c user os ≡ os
  all_same [] e = refl
  all_same (o ∷ os) e =
      let p = and_parts _ _ e in
      ap (λ l. l ++ openings_kept c user os) (kept_same o (c.copy o.name) p.0) ∙ ap (λ l. o ∷ l) (all_same os p.1)

module _ (c : Shown) where
  quiet_sent : (s : Session) → IsPlain s → are_sent c s ≡ true → delivered c s ≡ []
  quiet_sent s plain = go s.party plain.no_peer
    where
      go : (party : Party) → party_is_peer party ≡ false → are_sent_for c s party ≡ true → delivered_to c s party ≡ []
      go Nobody e told = refl
      go (User user) e told = ap (λ ws. outcomes_sent c ws ++ openings_sent c user s.openings) (none_idle s.waiting plain.idle) ∙ openings_none c user s.openings told
      go (Domain domain) e told = absurd (true≢false e)

  quiet_after : (s : Session) → IsPlain s → are_sent c s ≡ true → after_delivery c s ≡ s
  quiet_after s plain = go s.party plain.no_peer
    where
      go : (party : Party) → party_is_peer party ≡ false → are_sent_for c s party ≡ true → after_for c s party ≡ s
      go Nobody e told = refl
      go (User user) e told =
          let idle = none_idle s.waiting plain.idle in
          ap (λ os. record s { openings = os; waiting = still_waiting c s.waiting }) (all_same c user s.openings told)
          ∙ ap (λ ws. record s { openings = s.openings; waiting = still_waiting c ws }) idle ∙ ap (λ ws. record s { openings = s.openings; waiting = ws }) (sym idle)
      go (Domain domain) e told = absurd (true≢false e)

  pub quiet_seat : (s : Seat) → IsPlain s.session → is_told c s ≡ true → IsQuiet c s
  quiet_seat s plain told = record { sent = quiet_sent s.session plain told; after = ap (λ x. record { name = s.name; session = x }) (quiet_after s.session plain told) }
