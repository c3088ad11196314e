-- What copies give, of which some names alone are looked at as hosted.
--     sent_named, told_named              of names it is the same whichever are hosted
--     delivered_named, after_named        so it is with a session that isn't a peer's
use Rattle.std.proofs.Common.{◌≡◌, Bool, true, false, List, [], ◌∷◌, ◌++◌, Option, None, Some, refl, sym, ap, ◌∙◌, true≢false}
use Rattle.doc_items.specs.Maps.{Key}
use Rattle.delta_history.specs.Histories.{HistoryOf}
use Rattle.session_core.specs.declared.session.Party.{Party}
use Rattle.session_core.specs.declared.session.Party.TheVariants.{Nobody, User, Domain}
use Rattle.session_core.specs.declared.session.Opening.{Opening}
use Rattle.session_core.specs.declared.session.Session.{Session}
use Rattle.session_core.specs.declared.session.Telling.{Telling}
use Rattle.session_core.specs.Access.{Shown, with_hosts, seen_from}
use Rattle.session_core.specs.Deliveries.{outcomes_sent, opening_sent, openings_sent, opening_kept, openings_kept, telling_of, host_news, after_host, hosts_sent, hosts_told, delivered_to, delivered, after_for, after_delivery}
use Rattle.session_core.specs.Rules.{party_is_peer}

module _ (c : Shown) (names : List Key) where
  abbrev of_names : Shown
  of_names = with_hosts c names

  module _ (domain : Key) where
    pub sent_named : (ts : List Telling) (ns : List Key) → hosts_sent of_names domain ts ns ≡ hosts_sent c domain ts ns
    sent_named ts [] = refl
    sent_named ts (n ∷ ns) = ap (λ l. host_news n (telling_of n ts) (seen_from c n domain) ++ l) (sent_named (after_host c domain ts n) ns)

    pub told_named : (ts : List Telling) (ns : List Key) → hosts_told of_names domain ts ns ≡ hosts_told c domain ts ns
    told_named ts [] = refl
    told_named ts (n ∷ ns) = told_named (after_host c domain ts n) ns

  module _ (user : Key) where
    opening_named : (o : Opening) (copy : Option HistoryOf) → opening_sent of_names user o copy ≡ opening_sent c user o copy
    opening_named o None = refl
    opening_named o (Some h) = refl

    openings_named : (os : List Opening) → openings_sent of_names user os ≡ openings_sent c user os
    openings_named [] = refl
    openings_named (o ∷ os) = λ i. opening_named o (c.copy o.name) i ++ openings_named os i

    kept_named : (o : Opening) (copy : Option HistoryOf) → opening_kept of_names user o copy ≡ opening_kept c user o copy
    kept_named o None = refl
    kept_named o (Some h) = refl

    all_kept_named : (os : List Opening) → openings_kept of_names user os ≡ openings_kept c user os
    all_kept_named [] = refl
    all_kept_named (o ∷ os) = λ i. kept_named o (c.copy o.name) i ++ all_kept_named os i

  module _ (s : Session) (other : party_is_peer s.party ≡ false) where
    pub delivered_named : delivered of_names s ≡ delivered c s
    delivered_named = go s.party other
      where
        go : (p : Party) → party_is_peer p ≡ false → delivered_to of_names s p ≡ delivered_to c s p
        go Nobody e = refl
        go (User user) e = ap (λ l. outcomes_sent c s.waiting ++ l) (openings_named user s.openings)
        go (Domain domain) e = absurd (true≢false e)

    pub after_named : after_delivery of_names s ≡ after_delivery c s
    after_named = go s.party other
      where
        go : (p : Party) → party_is_peer p ≡ false → after_for of_names s p ≡ after_for c s p
        go Nobody e = refl
        go (User user) e = λ i. record (after_for c s (User user)) { openings = all_kept_named user s.openings i }
        go (Domain domain) e = absurd (true≢false e)
