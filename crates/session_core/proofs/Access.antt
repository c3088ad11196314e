-- Whoever it is is sent nothing that it may not see.
--     attached_may_see      in the answer to an `open`
--     all_may_see           in what is delivered
use Rattle.std.proofs.Common.{◌≡◌, ◌==◌, ℕ, Bool, true, false, if◌then◌else◌, List, [], ◌∷◌, ◌++◌, take, refl, sym, subst, ◌∙◌, append_assoc, Option, None, Some}
use Rattle.std.specs.Cmp.Lexicographic.{pointwise}
use Rattle.std.specs.List.{All}
use Rattle.std.proofs.lemmas.List.{take-append-drop}
use Rattle.std.proofs.lemmas.List.Elements.{All-nil, All-cons, All-append}
use Rattle.doc_items.specs.Maps.{Key}
use Rattle.wave_base.specs.Versions.{VersionAt}
use Rattle.wavelet_op.specs.Deltas.{DeltaOf}
use Rattle.wavelet_op.specs.declared.verdict.Verdict.{Verdict}
use Rattle.wavelet_op.specs.declared.verdict.Verdict.TheVariants as verdict
use Rattle.delta_history.specs.Histories.{HistoryOf, head_of, hash_found}
use Rattle.delta_history.specs.Places.{started_below}
use Rattle.message_json.specs.declared.message.Message.{Message}
use Rattle.wavelet_json.specs.declared.reason.UnopenedReason.TheVariants as unopened
use Rattle.message_json.specs.declared.message.Message.TheVariants.{Opened, Unopened, Update, Snapshot, Applied, Dropped}
use Rattle.session_core.specs.declared.session.Party.{Party}
use Rattle.session_core.specs.declared.session.Party.TheVariants.{Nobody, User, Domain}
use Rattle.session_core.specs.declared.session.Opening.{Opening}
use Rattle.session_core.specs.declared.session.Telling.{Telling}
use Rattle.session_core.specs.declared.session.Waiting.{Waiting}
use Rattle.session_core.specs.declared.session.Session.{Session}
use Rattle.session_core.specs.Access.{Shown, seen_by, seen_from, IsDeltaOf, IsStateOf, UserMaySee, DomainMaySee, MaySee}
use Rattle.session_core.specs.Answers.{with_sent, verdict_message, snapshot_of, is_sendable, attached_head, attached_hash, attached_seen, seen_for, attached}
use Rattle.session_core.specs.Deliveries.{since, updates, applieds, outcome_sent, outcomes_sent, opening_news, opening_sent, openings_sent, telling_of, host_news, after_host, hosts_sent, delivered_to, delivered}

-- ---- deltas

module _ (c : Shown) (user : Key) where
  updates_may : (name : Key) (h : HistoryOf) → seen_by c name user ≡ Some h → (front rest : List DeltaOf) → h.deltas ≡ front ++ rest → All (UserMaySee c user) (updates name rest)
  updates_may name h e front [] w = All-nil (UserMaySee c user)
  updates_may name h e front (d ∷ rest) w =
      All-cons (UserMaySee c user) (Update name d) (updates name rest) (subst (λ o. IsDeltaOf o d) (sym e) (front, (rest, w)))
      (updates_may name h e (front ++ d ∷ []) rest (w ∙ sym (append_assoc front (d ∷ []) rest)))

  since_may : (name : Key) (h : HistoryOf) (v : ℕ) → seen_by c name user ≡ Some h → All (UserMaySee c user) (updates name (since v h))
  since_may name h v e = updates_may name h e (take (started_below v h.deltas) h.deltas) (since v h) (sym (take-append-drop (started_below v h.deltas) h.deltas))

  -- ---- what a user is sent

  verdict_may : (name : Key) (w : Waiting) (v : Verdict) → UserMaySee c user (verdict_message w.name w.id v)
  verdict_may name w (verdict.Ack place to) = tt
  verdict_may name w verdict.NotParticipant = tt
  verdict_may name w verdict.ReadOnly = tt
  verdict_may name w (verdict.UnknownVersion head) = tt
  verdict_may name w (verdict.WrongHash host) = tt
  verdict_may name w (verdict.Invalid index) = tt
  verdict_may name w (verdict.Full head) = tt

  outcome_may : (w : Waiting) (o : Option Verdict) → All (UserMaySee c user) (outcome_sent w o)
  outcome_may w None = All-nil (UserMaySee c user)
  outcome_may w (Some v) = All-cons (UserMaySee c user) (verdict_message w.name w.id v) [] (verdict_may w.name w v) (All-nil (UserMaySee c user))

  outcomes_may : (ws : List Waiting) → All (UserMaySee c user) (outcomes_sent c ws)
  outcomes_may [] = All-nil (UserMaySee c user)
  outcomes_may (w ∷ ws) = All-append (UserMaySee c user) (outcome_sent w (c.outcome w.name w.id)) (outcomes_sent c ws) (outcome_may w (c.outcome w.name w.id)) (outcomes_may ws)

  news_may : (o : Opening) (s : Option HistoryOf) → seen_by c o.name user ≡ s → All (UserMaySee c user) (opening_news o s)
  news_may o None e = All-cons (UserMaySee c user) _ [] tt (All-nil (UserMaySee c user))
  news_may o (Some h) e = since_may o.name h o.sent e

  opening_may : (o : Opening) (copy : Option HistoryOf) → All (UserMaySee c user) (opening_sent c user o copy)
  opening_may o None = All-nil (UserMaySee c user)
  opening_may o (Some h) = news_may o (seen_by c o.name user) refl

  openings_may : (os : List Opening) → All (UserMaySee c user) (openings_sent c user os)
  openings_may [] = All-nil (UserMaySee c user)
  openings_may (o ∷ os) = All-append (UserMaySee c user) (opening_sent c user o (c.copy o.name)) (openings_sent c user os) (opening_may o (c.copy o.name)) (openings_may os)

  -- ---- what a user is answered

  choice_may : (a b : Session × Message) → UserMaySee c user a.1 → UserMaySee c user b.1 → (t : Bool) → UserMaySee c user (if t then a else b).1
  choice_may a b p q true = p
  choice_may a b p q false = q

  head_may : (s : Session) (name : Key) (h : HistoryOf) → seen_by c name user ≡ Some h → UserMaySee c user (attached_head s name (snapshot_of name h)).1
  head_may s name h e = choice_may (with_sent s name (head_of h).at.version, Snapshot (snapshot_of name h)) (s, Unopened name unopened.TooLarge)
      (subst (λ o. IsStateOf o (snapshot_of name h)) (sym e) (refl, refl, refl)) tt (is_sendable (snapshot_of name h))

  hash_may : (s : Session) (name : Key) (from head : VersionAt) (o : Option (List ℕ)) → UserMaySee c user (attached_hash s name from head o).1
  hash_may s name from head None = tt
  hash_may s name from head (Some hash) = choice_may (with_sent s name from.version, Opened name from.version) (s, Unopened name (unopened.WrongHash hash)) tt tt (pointwise ◌==◌ hash from.hash)

  seen_may : (s : Session) (name : Key) (from : Option VersionAt) (o : Option HistoryOf) → seen_by c name user ≡ o → UserMaySee c user (attached_seen s name from o).1
  seen_may s name from None e = tt
  seen_may s name None (Some h) e = head_may s name h e
  seen_may s name (Some from) (Some h) e = hash_may s name from (head_of h).at (hash_found h from.version)

-- ---- what a domain is sent

module _ (c : Shown) (own : Key) where
  applieds_may : (name : Key) (h : HistoryOf) → seen_from c name own ≡ Some h → (front rest : List DeltaOf) → h.deltas ≡ front ++ rest → All (DomainMaySee c own) (applieds name rest)
  applieds_may name h e front [] w = All-nil (DomainMaySee c own)
  applieds_may name h e front (d ∷ rest) w =
      All-cons (DomainMaySee c own) (Applied name d) (applieds name rest) (subst (λ o. IsDeltaOf o d) (sym e) (front, (rest, w)))
      (applieds_may name h e (front ++ d ∷ []) rest (w ∙ sym (append_assoc front (d ∷ []) rest)))

  told_may : (name : Key) (b : Bool) → All (DomainMaySee c own) (if b then Dropped name ∷ [] else [])
  told_may name true = All-cons (DomainMaySee c own) (Dropped name) [] tt (All-nil (DomainMaySee c own))
  told_may name false = All-nil (DomainMaySee c own)

  host_may : (name : Key) (t : Telling) (o : Option HistoryOf) → seen_from c name own ≡ o → All (DomainMaySee c own) (host_news name t o)
  host_may name t None e = told_may name t.told
  host_may name t (Some h) e = applieds_may name h e (take (started_below t.sent h.deltas) h.deltas) (since t.sent h) (sym (take-append-drop (started_below t.sent h.deltas) h.deltas))

  hosts_may : (ts : List Telling) (ns : List Key) → All (DomainMaySee c own) (hosts_sent c own ts ns)
  hosts_may ts [] = All-nil (DomainMaySee c own)
  hosts_may ts (n ∷ ns) = All-append (DomainMaySee c own) (host_news n (telling_of n ts) (seen_from c n own)) (hosts_sent c own (after_host c own ts n) ns)
      (host_may n (telling_of n ts) (seen_from c n own) refl) (hosts_may (after_host c own ts n) ns)

-- ---- all

to_may : (c : Shown) (s : Session) (p : Party) → All (MaySee c p) (delivered_to c s p)
to_may c s Nobody = All-nil (MaySee c Nobody)
to_may c s (User user) = All-append (UserMaySee c user) (outcomes_sent c s.waiting) (openings_sent c user s.openings) (outcomes_may c user s.waiting) (openings_may c user s.openings)
to_may c s (Domain own) = hosts_may c own s.tellings c.hosts

pub all_may_see : (c : Shown) (s : Session) (ms : List Message) → ms ≡ delivered c s → All (MaySee c s.party) ms
all_may_see c s ms e = subst (All (MaySee c s.party)) (sym e) (to_may c s s.party)

as_may : (c : Shown) (s : Session) (name : Key) (from : Option VersionAt) (p : Party) → MaySee c p (attached_seen s name from (seen_for c p name)).1
as_may c s name from Nobody = tt
as_may c s name from (User user) = seen_may c user s name from (seen_by c name user) refl
as_may c s name from (Domain own) = tt

pub attached_may_see : (c : Shown) (s t : Session) (name : Key) (from : Option VersionAt) (m : Message) → (t, m) ≡ attached c s name from → MaySee c s.party m
attached_may_see c s t name from m e = subst (λ r. MaySee c s.party r.1) (sym e) (as_may c s name from s.party)
