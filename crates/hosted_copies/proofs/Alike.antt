-- What sessions are told rests on the names and deltas of the copies alone.
--     attached_alike      what an `open` is answered
--     delivered_alike     what a session is sent
--     after_alike         the session then
--     had_alike           and what it is after a `have`
--     told_alike          whether it was sent all
--     placed_alike        where its deltas stand
use Rattle.std.specs.List.{list_any}
use Rattle.std.specs.FinMap.{keys}
use Rattle.std.proofs.Common.{◌≡◌, ℕ, Bool, true, false, not, ◌&&◌, cond, List, [], ◌∷◌, ◌++◌, Option, None, Some, slice_get, refl, sym, ap, subst, ◌∙◌, is_some, option_map, option_and_then, true≢false}
use Rattle.doc_items.specs.Maps.{Key}
use Rattle.wave_base.specs.Versions.{VersionAt}
use Rattle.wavelet_op.specs.States.{role_of}
use Rattle.delta_history.specs.Histories.{HistoryOf}
use Rattle.delta_history.specs.Points.{end_of, point_at}
use Rattle.session_core.specs.declared.session.Party.{Party}
use Rattle.session_core.specs.declared.session.Party.TheVariants.{Nobody, User, Domain}
use Rattle.session_core.specs.declared.session.Opening.{Opening}
use Rattle.session_core.specs.declared.session.Waiting.{Waiting}
use Rattle.session_core.specs.declared.session.Telling.{Telling}
use Rattle.session_core.specs.declared.session.Session.{Session}
use Rattle.session_core.specs.Access.{Shown, is_member, has_domain, is_of_domain, seen_by, seen_from}
use Rattle.session_core.specs.Answers.{attached_head, attached_hash, attached_seen, seen_for, attached, had_hash, had_copy, had}
use Rattle.session_core.specs.Deliveries.{outcome_sent, outcomes_sent, waits_on, still_waiting, opening_news, opening_sent, openings_sent, opening_left, opening_kept, openings_kept, telling_of, host_news, host_told, after_host, hosts_sent, hosts_told, delivered_to, delivered, after_for, after_delivery}
use Rattle.session_core.specs.Current.{is_sent, is_opening_sent, are_sent_to, are_sent_for, are_sent}
use Rattle.session_core.specs.News.{deltas_of, IsPlaced}
use Rattle.session_core.specs.declared.news.News.{News}
use Rattle.session_core.specs.declared.news.News.TheVariants as news
use Rattle.wavelet_shelf.specs.Hosting.{IsCopyOf}
use Rattle.hosted_copies.specs.Shown.{IsSameShown}

-- ---- one copy

member_alike : (g h : HistoryOf) (user : Key) → IsCopyOf (Some g) (Some h) → is_member g user ≡ is_member h user
member_alike g h user s = (λ i. is_some (role_of (end_of (s.0 i) (s.1 i)).state user))

domain_alike : (g h : HistoryOf) (domain : Key) → IsCopyOf (Some g) (Some h) → has_domain g domain ≡ has_domain h domain
domain_alike g h domain s = (λ i. list_any (is_of_domain domain) (keys (end_of (s.0 i) (s.1 i)).state.roles))

chosen : (g h : HistoryOf) (b c : Bool) → b ≡ c → IsCopyOf (Some g) (Some h) → IsCopyOf (cond b (Some g) None) (cond c (Some h) None)
chosen g h true true e s = s
chosen g h false false e s = tt
chosen g h true false e s = absurd (true≢false e)
chosen g h false true e s = absurd (true≢false (sym e))

abbrev picked : Bool → Key → Option HistoryOf → Option HistoryOf
picked dropped user o = option_and_then (λ h. cond (is_member h user && not dropped) (Some h) None) o

picked_alike : (dropped : Bool) (user : Key) (o p : Option HistoryOf) → IsCopyOf o p → IsCopyOf (picked dropped user o) (picked dropped user p)
picked_alike dropped user None None s = tt
picked_alike dropped user None (Some h) s = absurd s
picked_alike dropped user (Some g) None s = absurd s
picked_alike dropped user (Some g) (Some h) s = chosen g h (is_member g user && not dropped) (is_member h user && not dropped) (ap (λ b. b && not dropped) (member_alike g h user s)) s

abbrev from : Bool → Key → Option HistoryOf → Option HistoryOf
from dropped domain o = option_and_then (λ h. cond (has_domain h domain && not dropped) (Some h) None) o

from_alike : (dropped : Bool) (domain : Key) (o p : Option HistoryOf) → IsCopyOf o p → IsCopyOf (from dropped domain o) (from dropped domain p)
from_alike dropped domain None None s = tt
from_alike dropped domain None (Some h) s = absurd s
from_alike dropped domain (Some g) None s = absurd s
from_alike dropped domain (Some g) (Some h) s = chosen g h (has_domain g domain && not dropped) (has_domain h domain && not dropped) (ap (λ b. b && not dropped) (domain_alike g h domain s)) s

-- ---- a hosted wavelet, for a peer

host_alike : (name : Key) (t : Telling) (o p : Option HistoryOf) → IsCopyOf o p → host_news name t o ≡ host_news name t p
host_alike name t None None e = refl
host_alike name t None (Some h) e = absurd e
host_alike name t (Some g) None e = absurd e
host_alike name t (Some g) (Some h) e = ap (λ ds. host_news name t (Some (record { name = h.name; deltas = ds; spare = 0 }))) e.1

host_told_alike : (name : Key) (ts : List Telling) (t : Telling) (o p : Option HistoryOf) → IsCopyOf o p → host_told name ts t o ≡ host_told name ts t p
host_told_alike name ts t None None e = refl
host_told_alike name ts t None (Some h) e = absurd e
host_told_alike name ts t (Some g) None e = absurd e
host_told_alike name ts t (Some g) (Some h) e = (λ i. host_told name ts t (Some (record { name = e.0 i; deltas = e.1 i; spare = 0 })))

copy_had : (s : Session) (name : Key) (from : VersionAt) (o p : Option HistoryOf) → IsCopyOf o p → had_copy s name from o ≡ had_copy s name from p
copy_had s name from None None e = refl
copy_had s name from None (Some h) e = absurd e
copy_had s name from (Some g) None e = absurd e
copy_had s name from (Some g) (Some h) e = (λ i. had_hash s name from (option_map (λ p. p.at.hash) (point_at (e.0 i) (e.1 i) from.version)))

module _ (c d : Shown) (same : IsSameShown c d) where
  seen_alike : (name user : Key) → IsCopyOf (seen_by c name user) (seen_by d name user)
  seen_alike name user = subst (λ b. IsCopyOf (seen_by c name user) (picked b user (d.copy name))) (same.drops name) (picked_alike (c.drops name) user (c.copy name) (d.copy name) (same.copy name))

  seen_for_alike : (party : Party) (name : Key) → IsCopyOf (seen_for c party name) (seen_for d party name)
  seen_for_alike Nobody name = tt
  seen_for_alike (User user) name = seen_alike name user
  seen_for_alike (Domain domain) name = tt

  -- ---- open wavelets

  answer_alike : (s : Session) (name : Key) (from : Option VersionAt) (o p : Option HistoryOf) → IsCopyOf o p → attached_seen s name from o ≡ attached_seen s name from p
  answer_alike s name from None None e = refl
  answer_alike s name from None (Some h) e = absurd e
  answer_alike s name from (Some g) None e = absurd e
  answer_alike s name None (Some g) (Some h) e =
      (λ i. attached_head s name (record { name = name; at = (end_of (e.0 i) (e.1 i)).at; inserted = (end_of (e.0 i) (e.1 i)).count; state = (end_of (e.0 i) (e.1 i)).state }))
  answer_alike s name (Some from) (Some g) (Some h) e =
      (λ i. attached_hash s name from (end_of (e.0 i) (e.1 i)).at (option_map (λ p. p.at.hash) (point_at (e.0 i) (e.1 i) from.version)))

  pub attached_alike : (s : Session) (name : Key) (from : Option VersionAt) → attached c s name from ≡ attached d s name from
  attached_alike s name from = answer_alike s name from (seen_for c s.party name) (seen_for d s.party name) (seen_for_alike s.party name)

  -- ---- deliveries

  outcomes_alike : (ws : List Waiting) → outcomes_sent c ws ≡ outcomes_sent d ws
  outcomes_alike [] = refl
  outcomes_alike (w ∷ ws) = (λ i. outcome_sent w (same.outcome w.name w.id i) ++ outcomes_alike ws i)

  waiting_alike : (ws : List Waiting) → still_waiting c ws ≡ still_waiting d ws
  waiting_alike [] = refl
  waiting_alike (w ∷ ws) = (λ i. waits_on w (same.outcome w.name w.id i) ++ waiting_alike ws i)

  news_alike : (o : Opening) (s t : Option HistoryOf) → IsCopyOf s t → opening_news o s ≡ opening_news o t
  news_alike o None None e = refl
  news_alike o None (Some h) e = absurd e
  news_alike o (Some g) None e = absurd e
  news_alike o (Some g) (Some h) e = ap (λ ds. opening_news o (Some (record { name = h.name; deltas = ds; spare = 0 }))) e.1

  left_alike : (o : Opening) (s t : Option HistoryOf) → IsCopyOf s t → opening_left o s ≡ opening_left o t
  left_alike o None None e = refl
  left_alike o None (Some h) e = absurd e
  left_alike o (Some g) None e = absurd e
  left_alike o (Some g) (Some h) e = (λ i. record { name = o.name; sent = (end_of (e.0 i) (e.1 i)).at.version } ∷ [])

  opening_alike : (user : Key) (o : Opening) (s t : Option HistoryOf) → IsCopyOf s t → opening_sent c user o s ≡ opening_sent d user o t
  opening_alike user o None None e = refl
  opening_alike user o None (Some h) e = absurd e
  opening_alike user o (Some g) None e = absurd e
  opening_alike user o (Some g) (Some h) e = news_alike o (seen_by c o.name user) (seen_by d o.name user) (seen_alike o.name user)

  kept_alike : (user : Key) (o : Opening) (s t : Option HistoryOf) → IsCopyOf s t → opening_kept c user o s ≡ opening_kept d user o t
  kept_alike user o None None e = refl
  kept_alike user o None (Some h) e = absurd e
  kept_alike user o (Some g) None e = absurd e
  kept_alike user o (Some g) (Some h) e = left_alike o (seen_by c o.name user) (seen_by d o.name user) (seen_alike o.name user)

  openings_alike : (user : Key) (os : List Opening) → openings_sent c user os ≡ openings_sent d user os
  openings_alike user [] = refl
  openings_alike user (o ∷ os) = (λ i. opening_alike user o (c.copy o.name) (d.copy o.name) (same.copy o.name) i ++ openings_alike user os i)

  openings_kept_alike : (user : Key) (os : List Opening) → openings_kept c user os ≡ openings_kept d user os
  openings_kept_alike user [] = refl
  openings_kept_alike user (o ∷ os) = (λ i. kept_alike user o (c.copy o.name) (d.copy o.name) (same.copy o.name) i ++ openings_kept_alike user os i)

  head_sent : (v : ℕ) (s t : Option HistoryOf) → IsCopyOf s t → is_sent v s ≡ is_sent v t
  head_sent v None None e = refl
  head_sent v None (Some h) e = absurd e
  head_sent v (Some g) None e = absurd e
  head_sent v (Some g) (Some h) e = (λ i. is_sent v (Some (record { name = e.0 i; deltas = e.1 i; spare = 0 })))

  opening_told : (user : Key) (o : Opening) (s t : Option HistoryOf) → IsCopyOf s t → is_opening_sent c user o s ≡ is_opening_sent d user o t
  opening_told user o None None e = refl
  opening_told user o None (Some h) e = absurd e
  opening_told user o (Some g) None e = absurd e
  opening_told user o (Some g) (Some h) e = head_sent o.sent (seen_by c o.name user) (seen_by d o.name user) (seen_alike o.name user)

  openings_told : (user : Key) (os : List Opening) → are_sent_to c user os ≡ are_sent_to d user os
  openings_told user [] = refl
  openings_told user (o ∷ os) = (λ i. opening_told user o (c.copy o.name) (d.copy o.name) (same.copy o.name) i && openings_told user os i)

  pub told_alike : (s : Session) → are_sent c s ≡ are_sent d s
  told_alike s = go s.party
    where
      go : (party : Party) → are_sent_for c s party ≡ are_sent_for d s party
      go Nobody = refl
      go (User user) = openings_told user s.openings
      go (Domain domain) = refl

  deltas_alike : (s t : Option HistoryOf) → IsCopyOf s t → deltas_of s ≡ deltas_of t
  deltas_alike None None e = refl
  deltas_alike None (Some h) e = absurd e
  deltas_alike (Some g) None e = absurd e
  deltas_alike (Some g) (Some h) e = e.1

  pub placed_alike : (n : News) → IsPlaced c n → IsPlaced d n
  placed_alike (news.Update name place delta) p = ap (λ ds. slice_get ds place) (sym (deltas_alike (c.copy name.now) (d.copy name.now) (same.copy name.now))) ∙ p
  placed_alike (news.Applied name place delta) p = ap (λ ds. slice_get ds place) (sym (deltas_alike (c.copy name.now) (d.copy name.now) (same.copy name.now))) ∙ p
  placed_alike (news.Message m) p = tt

  -- ---- hosted wavelets, for a peer

  seen_from_alike : (name domain : Key) → IsCopyOf (seen_from c name domain) (seen_from d name domain)
  seen_from_alike name domain = subst (λ b. IsCopyOf (seen_from c name domain) (from b domain (d.copy name))) (same.drops name) (from_alike (c.drops name) domain (c.copy name) (d.copy name) (same.copy name))

  after_host_alike : (domain : Key) (ts : List Telling) (name : Key) → after_host c domain ts name ≡ after_host d domain ts name
  after_host_alike domain ts name = host_told_alike name ts (telling_of name ts) (seen_from c name domain) (seen_from d name domain) (seen_from_alike name domain)

  hosts_alike : (domain : Key) (ts : List Telling) (names : List Key) → hosts_sent c domain ts names ≡ hosts_sent d domain ts names
  hosts_alike domain ts [] = refl
  hosts_alike domain ts (n ∷ names) =
      let first = host_alike n (telling_of n ts) (seen_from c n domain) (seen_from d n domain) (seen_from_alike n domain) in
      let rest = hosts_alike domain (after_host c domain ts n) names ∙ ap (λ us. hosts_sent d domain us names) (after_host_alike domain ts n) in
      (λ i. first i ++ rest i)

  hosts_told_alike : (domain : Key) (ts : List Telling) (names : List Key) → hosts_told c domain ts names ≡ hosts_told d domain ts names
  hosts_told_alike domain ts [] = refl
  hosts_told_alike domain ts (n ∷ names) = hosts_told_alike domain (after_host c domain ts n) names ∙ ap (λ us. hosts_told d domain us names) (after_host_alike domain ts n)

  pub had_alike : (s : Session) (name : Key) (from : VersionAt) → had c s name from ≡ had d s name from
  had_alike s name from = copy_had s name from (c.copy name) (d.copy name) (same.copy name)

  -- ---- all

  pub delivered_alike : (s : Session) → delivered c s ≡ delivered d s
  delivered_alike s = go s.party
    where
      go : (party : Party) → delivered_to c s party ≡ delivered_to d s party
      go Nobody = refl
      go (User user) = (λ i. outcomes_alike s.waiting i ++ openings_alike user s.openings i)
      go (Domain domain) = hosts_alike domain s.tellings c.hosts ∙ ap (hosts_sent d domain s.tellings) same.hosts

  pub after_alike : (s : Session) → after_delivery c s ≡ after_delivery d s
  after_alike s = go s.party
    where
      go : (party : Party) → after_for c s party ≡ after_for d s party
      go Nobody = refl
      go (User user) = (λ i. record s { openings = openings_kept_alike user s.openings i; waiting = waiting_alike s.waiting i })
      go (Domain domain) = ap (λ ts. record s { tellings = ts }) (hosts_told_alike domain s.tellings c.hosts ∙ ap (hosts_told d domain s.tellings) same.hosts)
