-- What a session of a client is sent and answered has no delta with a bound.
--     attached_short      an `open` is answered
--     told_short          a submission is answered
--     sent_short          it is sent
--     all_short           so is each of the news
use Rattle.std.proofs.Common.{◌≡◌, ◌==◌, ℕ, Bool, true, false, if◌then◌else◌, List, [], ◌∷◌, Option, None, Some, subst, sym, true≢false}
use Rattle.std.specs.Cmp.Lexicographic.{pointwise}
use Rattle.std.specs.List.{All}
use Rattle.std.proofs.lemmas.List.Elements.{All-nil, All-cons, All-head, All-tail, All-append}
use Rattle.doc_items.specs.Maps.{Key}
use Rattle.wave_base.specs.Versions.{VersionAt, IdOf}
use Rattle.wavelet_op.specs.Deltas.{DeltaOf}
use Rattle.wavelet_op.specs.declared.verdict.Verdict.{Verdict}
use Rattle.wavelet_op.specs.declared.verdict.Verdict.TheVariants as verdict
use Rattle.delta_history.specs.Histories.{HistoryOf, head_of, hash_found}
use Rattle.wavelet_json.specs.declared.reason.UnopenedReason.TheVariants as unopened
use Rattle.message_json.specs.Write.{IsShort}
use Rattle.message_json.specs.declared.message.Message.{Message}
use Rattle.message_json.specs.declared.message.Message.TheVariants.{Opened, Snapshot, Unopened, Update}
use Rattle.session_core.specs.declared.session.Party.{Party}
use Rattle.session_core.specs.declared.session.Party.TheVariants.{Nobody, User, Domain}
use Rattle.session_core.specs.declared.session.Opening.{Opening}
use Rattle.session_core.specs.declared.session.Waiting.{Waiting}
use Rattle.session_core.specs.declared.session.Session.{Session}
use Rattle.session_core.specs.Access.{Shown, seen_by}
use Rattle.session_core.specs.Answers.{with_sent, verdict_message, told_verdict, snapshot_of, is_sendable, attached_hash, attached_seen, seen_for, attached}
use Rattle.session_core.specs.Deliveries.{since, updates, outcome_sent, outcomes_sent, opening_news, opening_sent, openings_sent, delivered_to, delivered}
use Rattle.session_core.specs.News.{message_of, messages_of}
use Rattle.session_core.specs.declared.news.News.{News}
use Rattle.session_core.specs.Rules.{party_is_peer, has_peer}

-- ---- what is answered

short_choice : (t : Bool) (a b : Session × Message) → IsShort a.1 → IsShort b.1 → IsShort (if t then a else b).1
short_choice true a b p q = p
short_choice false a b p q = q

seen_short : (s : Session) (name : Key) (from : Option VersionAt) (o : Option HistoryOf) → IsShort (attached_seen s name from o).1
seen_short s name from None = tt
seen_short s name None (Some h) = short_choice (is_sendable (snapshot_of name h)) (with_sent s name (snapshot_of name h).at.version, Snapshot (snapshot_of name h)) (s, Unopened name unopened.TooLarge) tt tt
seen_short s name (Some from) (Some h) = go (hash_found h from.version)
  where
    go : (o : Option (List ℕ)) → IsShort (attached_hash s name from (head_of h).at o).1
    go None = tt
    go (Some hash) = short_choice (pointwise ◌==◌ hash from.hash) (with_sent s name from.version, Opened name from.version) (s, Unopened name (unopened.WrongHash hash)) tt tt

pub attached_short : (c : Shown) (s : Session) (name : Key) (from : Option VersionAt) → IsShort (attached c s name from).1
attached_short c s name from = seen_short s name from (seen_for c s.party name)

verdict_short : (name : Key) (id : IdOf) (v : Verdict) → IsShort (verdict_message name id v)
verdict_short name id (verdict.Ack place to) = tt
verdict_short name id verdict.NotParticipant = tt
verdict_short name id verdict.ReadOnly = tt
verdict_short name id (verdict.UnknownVersion head) = tt
verdict_short name id (verdict.WrongHash host) = tt
verdict_short name id (verdict.Invalid index) = tt
verdict_short name id (verdict.Full head) = tt

pub told_short : (party : Party) (name : Key) (id : IdOf) (v : Verdict) → IsShort (told_verdict party name id v)
told_short Nobody name id v = verdict_short name id v
told_short (User user) name id v = verdict_short name id v
told_short (Domain domain) name id v = tt

-- ---- what is sent

module _ (c : Shown) where
  updates_short : (name : Key) (ds : List DeltaOf) → All IsShort (updates name ds)
  updates_short name [] = All-nil IsShort
  updates_short name (d ∷ ds) = All-cons IsShort (Update name d) (updates name ds) tt (updates_short name ds)

  outcome_short : (w : Waiting) (o : Option Verdict) → All IsShort (outcome_sent w o)
  outcome_short w None = All-nil IsShort
  outcome_short w (Some v) = All-cons IsShort (verdict_message w.name w.id v) [] (verdict_short w.name w.id v) (All-nil IsShort)

  outcomes_short : (ws : List Waiting) → All IsShort (outcomes_sent c ws)
  outcomes_short [] = All-nil IsShort
  outcomes_short (w ∷ ws) = All-append IsShort (outcome_sent w (c.outcome w.name w.id)) (outcomes_sent c ws) (outcome_short w (c.outcome w.name w.id)) (outcomes_short ws)

  news_short : (o : Opening) (seen : Option HistoryOf) → All IsShort (opening_news o seen)
  news_short o None = All-cons IsShort _ [] tt (All-nil IsShort)
  news_short o (Some h) = updates_short o.name (since o.sent h)

  opening_short : (user : Key) (o : Opening) (copy : Option HistoryOf) → All IsShort (opening_sent c user o copy)
  opening_short user o None = All-nil IsShort
  opening_short user o (Some h) = news_short o (seen_by c o.name user)

  openings_short : (user : Key) (os : List Opening) → All IsShort (openings_sent c user os)
  openings_short user [] = All-nil IsShort
  openings_short user (o ∷ os) = All-append IsShort (opening_sent c user o (c.copy o.name)) (openings_sent c user os) (opening_short user o (c.copy o.name)) (openings_short user os)

  pub sent_short : (s : Session) → has_peer s ≡ false → All IsShort (delivered c s)
  sent_short s no_peer = go s.party no_peer
    where
      go : (party : Party) → party_is_peer party ≡ false → All IsShort (delivered_to c s party)
      go Nobody e = All-nil IsShort
      go (User user) e = All-append IsShort (outcomes_sent c s.waiting) (openings_sent c user s.openings) (outcomes_short s.waiting) (openings_short user s.openings)
      go (Domain domain) e = absurd (true≢false e)

  pub all_short : (s : Session) (ns : List News) → has_peer s ≡ false → messages_of ns ≡ delivered c s → All (λ n. IsShort (message_of n)) ns
  all_short s ns no_peer e = each ns (subst (All IsShort) (sym e) (sent_short s no_peer))
    where
      each : (xs : List News) → All IsShort (messages_of xs) → All (λ n. IsShort (message_of n)) xs
      each [] all = All-nil (λ n. IsShort (message_of n))
      each (x ∷ xs) all = All-cons (λ n. IsShort (message_of n)) x xs (All-head IsShort (message_of x) (messages_of xs) all) (each xs (All-tail IsShort (message_of x) (messages_of xs) all))
