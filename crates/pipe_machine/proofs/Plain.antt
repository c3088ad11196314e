-- Sessions of a pipe stay such.
--     none_idle           what is idle waits for nothing
--     taken_good          whatever message one takes
--     attached_plain, attached_short      whatever an `open` is answered
--     told_plain, told_short              whatever a submission is answered
--     all_short           whatever is sent
--     after_plain         whatever was sent
--     plain_after, short_after    whatever a message is replied
use Rattle.std.proofs.Common.{◌≡◌, ◌==◌, ℕ, Bool, true, false, ◌&&◌, if◌then◌else◌, List, [], ◌∷◌, Option, None, Some, Result, Ok, Err, IfOk, OnErr, refl, sym, ap, subst, true≢false}
use Rattle.std.specs.Cmp.Lexicographic.{pointwise}
use Rattle.std.specs.List.{All}
use Rattle.std.specs.Str.{encode_utf8_all}
use Rattle.std.proofs.lemmas.List.Elements.{All-nil, All-cons, All-head, All-tail, All-append}
use Rattle.doc_items.specs.Maps.{Key, same_text}
use Rattle.wave_base.specs.Versions.{VersionAt, IdOf}
use Rattle.wavelet_op.specs.Deltas.{DeltaOf}
use Rattle.wavelet_op.specs.declared.op.WaveletOp.{WaveletOp}
use Rattle.wavelet_op.specs.declared.verdict.Verdict.{Verdict}
use Rattle.wavelet_op.specs.declared.verdict.Verdict.TheVariants as verdict
use Rattle.delta_history.specs.Histories.{HistoryOf, head_of, hash_found}
use Rattle.wavelet_json.specs.Good.{is_count}
use Rattle.wavelet_json.specs.declared.reason.BadReason.{BadReason}
use Rattle.wavelet_json.specs.declared.reason.BadReason.TheVariants as bad
use Rattle.wavelet_json.specs.declared.reason.UnopenedReason.TheVariants as unopened
use Rattle.message_json.specs.Write.{IsShort}
use Rattle.message_json.specs.declared.message.Message.{Message}
use Rattle.message_json.specs.declared.message.Message.TheVariants.{Hello, OpenWavelet, Submit, CloseWavelet, Welcome, Opened, Snapshot, Unopened, Ack, Refused, Queued, Update, Closed, Bad, Peer, Have, Relay, Applied, Relayed, Dropped}
use Rattle.session_core.specs.declared.session.Party.{Party}
use Rattle.session_core.specs.declared.session.Party.TheVariants.{Nobody, User, Domain}
use Rattle.session_core.specs.declared.session.Opening.{Opening}
use Rattle.session_core.specs.declared.session.Waiting.{Waiting}
use Rattle.session_core.specs.declared.session.Session.{Session}
use Rattle.session_core.specs.declared.request.Request.{Request}
use Rattle.session_core.specs.declared.request.Request.TheVariants as ask
use Rattle.session_core.specs.declared.request.SubmitAnswer.TheVariants as answer
use Rattle.session_core.specs.Access.{Shown, seen_by}
use Rattle.session_core.specs.Answers.{with_sent, verdict_message, told_verdict, answered, snapshot_of, is_sendable, attached_hash, attached_seen, seen_for, attached}
use Rattle.session_core.specs.Deliveries.{since, updates, outcome_sent, outcomes_sent, still_waiting, opening_news, opening_sent, openings_sent, delivered_to, delivered, after_for, after_delivery}
use Rattle.session_core.specs.News.{message_of, messages_of}
use Rattle.session_core.specs.declared.news.News.{News}
use Rattle.session_core.specs.Rules.{Taken, party_is_user, party_is_peer, has_user, refused, with_party, is_new, is_user, greeted, as_user, in_domain, is_reached, place_of, closed_at, asked_open, submission_of, submitted_as, submitted, closed, taken}
use Rattle.wavelet_shelf.specs.Hosting.{Hosted, judged_in}
use Rattle.hosted_copies.proofs.Short.{attached_short, told_short, all_short as news_short}
use Rattle.line_loop.specs.declared.line_machine.TurnFault.{TurnFault}
use Rattle.pipe_machine.specs.Keeping.{asks_for, submits}
use Rattle.hosted_copies.specs.Shown.{shown_in}
use Rattle.pipe_machine.specs.Machine.{Reply, reply_of, asked}
use Rattle.pipe_machine.specs.Seats.{is_idle, IsPlain, AsksAsUser}

pub none_idle : (ws : List Waiting) → is_idle ws ≡ true → ws ≡ []
none_idle [] e = refl
none_idle (w ∷ ws) e = absurd (true≢false (sym e))

-- ---- what a message asks for

abbrev pub IsShortReply : Request → Type 0
IsShortReply (ask.Reply m) = IsShort m
IsShortReply (ask.Attach name from) = Unit {0}
IsShortReply (ask.Submit name s) = Unit {0}
IsShortReply (ask.Have name from) = Unit {0}

pub record IsGood (may : Key → Bool) (r : Taken) : Type 0 where
  pub plain : IsPlain r.0
  pub asks : AsksAsUser r.0 r.1
  pub short : IsShortReply r.1
  pub only : (n : Key) → may n ≡ false → asks_for r.1 n ≡ false

module _ (may : Key → Bool) where
  refused_good : (s : Session) (reason : BadReason) → IsPlain s → IsGood may (refused s reason)
  refused_good s reason p = record { plain = p; asks = tt; short = tt; only = λ n h. refl }

  choice_good : (t : Bool) (a b : Taken) → IsGood may a → IsGood may b → IsGood may (if t then a else b)
  choice_good true a b p q = p
  choice_good false a b p q = q

  user_good : (s : Session) (act : Key → Taken) → IsPlain s → (party : Party) → s.party ≡ party → ((u : Key) → has_user s ≡ true → IsGood may (act u)) → IsGood may (as_user s act party)
  user_good s act p Nobody e f = refused_good s bad.BadUser p
  user_good s act p (User u) e f = f u (ap party_is_user e)
  user_good s act p (Domain d) e f = refused_good s bad.NotMessage p

  nowhere_good : (s : Session) (r : Taken) → IsPlain s → IsGood may (in_domain s r)
  nowhere_good s r p = subst (λ b. IsGood may (if b then r else refused s bad.NotMessage)) (sym p.nowhere) (refused_good s bad.NotMessage p)

  greeted_good : (s : Session) (text : List ℕ) → IsPlain s → IsGood may (greeted s text)
  greeted_good s text p = choice_good (is_new s && is_user s (encode_utf8_all text)) (with_party s (User (encode_utf8_all text)), ask.Reply (Welcome text)) (refused s bad.BadUser)
      (record { plain = record { nowhere = p.nowhere; no_peer = refl; idle = p.idle }; asks = tt; short = tt; only = λ n h. refl }) (refused_good s bad.BadUser p)

  open_good : (s : Session) (name : Key) (from : Option VersionAt) → IsPlain s → IsGood may (asked_open s name from)
  open_good s name from p = user_good s (λ _. if is_reached s name then (s, ask.Attach name from) else refused s bad.NoHost) p s.party refl
      (λ u has. choice_good (is_reached s name) (s, ask.Attach name from) (refused s bad.NoHost) (record { plain = p; asks = has; short = tt; only = λ n h. refl }) (refused_good s bad.NoHost p))

  closed_good : (s : Session) (name : Key) → IsPlain s → IsGood may (closed s name)
  closed_good s name p = user_good s (λ _. closed_at s name (place_of name s.openings)) p s.party refl (λ u has. go (place_of name s.openings))
    where
      go : (o : Option ℕ) → IsGood may (closed_at s name o)
      go None = refused_good s bad.NotOpen p
      go (Some i) = record { plain = record { nowhere = p.nowhere; no_peer = p.no_peer; idle = p.idle }; asks = tt; short = tt; only = λ n h. refl }

  submitted_good : (s : Session) (name : Key) (client number : ℕ) (from : VersionAt) (ops : List WaveletOp) → IsPlain s → ((n : Key) → may n ≡ false → same_text name n ≡ false) → IsGood may (submitted s name client number from ops)
  submitted_good s name client number from ops p own = choice_good (is_count client && is_count number) (as_user s (submitted_as s name client number from ops) s.party) (refused s bad.NotMessage)
      (user_good s (submitted_as s name client number from ops) p s.party refl
      (λ u has. choice_good (is_reached s name) (s, ask.Submit name (submission_of u client number from ops)) (refused s bad.NoHost) (record { plain = p; asks = tt; short = tt; only = own }) (refused_good s bad.NoHost p)))
      (refused_good s bad.NotMessage p)

pub taken_good : (s : Session) (m : Message) → IsPlain s → IsGood (submits m) (taken s m)
taken_good s (Hello user) p = greeted_good (submits (Hello user)) s user p
taken_good s (OpenWavelet name from) p = open_good (submits (OpenWavelet name from)) s name from p
taken_good s (Submit name client number from ops) p = submitted_good (submits (Submit name client number from ops)) s name client number from ops p (λ n h. h)
taken_good s (CloseWavelet name) p = closed_good (submits (CloseWavelet name)) s name p
taken_good s (Welcome user) p = refused_good (submits (Welcome user)) s bad.NotMessage p
taken_good s (Opened name version) p = refused_good (submits (Opened name version)) s bad.NotMessage p
taken_good s (Snapshot snapshot) p = refused_good (submits (Snapshot snapshot)) s bad.NotMessage p
taken_good s (Unopened name reason) p = refused_good (submits (Unopened name reason)) s bad.NotMessage p
taken_good s (Ack name client number place to) p = refused_good (submits (Ack name client number place to)) s bad.NotMessage p
taken_good s (Refused name client number v) p = refused_good (submits (Refused name client number v)) s bad.NotMessage p
taken_good s (Queued name client number) p = refused_good (submits (Queued name client number)) s bad.NotMessage p
taken_good s (Update name delta) p = refused_good (submits (Update name delta)) s bad.NotMessage p
taken_good s (Closed name reason) p = refused_good (submits (Closed name reason)) s bad.NotMessage p
taken_good s (Bad reason) p = refused_good (submits (Bad reason)) s bad.NotMessage p
taken_good s (Peer domain) p = nowhere_good (submits (Peer domain)) s _ p
taken_good s (Have name from) p = nowhere_good (submits (Have name from)) s _ p
taken_good s (Relay name submission) p = nowhere_good (submits (Relay name submission)) s _ p
taken_good s (Applied name delta) p = refused_good (submits (Applied name delta)) s bad.NotMessage p
taken_good s (Relayed name id v) p = refused_good (submits (Relayed name id v)) s bad.NotMessage p
taken_good s (Dropped name) p = refused_good (submits (Dropped name)) s bad.NotMessage p

-- ---- what is answered

pub record IsWell (r : Session × Message) : Type 0 where
  pub plain : IsPlain r.0
  pub short : IsShort r.1

choice_plain : (t : Bool) (a b : Session × Message) → IsPlain a.0 → IsPlain b.0 → IsPlain (if t then a else b).0
choice_plain true a b p q = p
choice_plain false a b p q = q

stays_plain : (s : Session) (name : Key) (v : ℕ) → IsPlain s → IsPlain (with_sent s name v)
stays_plain s name v p = record { nowhere = p.nowhere; no_peer = p.no_peer; idle = p.idle }

seen_plain : (s : Session) (name : Key) (from : Option VersionAt) (o : Option HistoryOf) → IsPlain s → IsPlain (attached_seen s name from o).0
seen_plain s name from None p = p
seen_plain s name None (Some h) p = choice_plain (is_sendable (snapshot_of name h)) (with_sent s name (snapshot_of name h).at.version, Snapshot (snapshot_of name h)) (s, Unopened name unopened.TooLarge)
    (stays_plain s name (snapshot_of name h).at.version p) p
seen_plain s name (Some from) (Some h) p = go (hash_found h from.version)
  where
    go : (o : Option (List ℕ)) → IsPlain (attached_hash s name from (head_of h).at o).0
    go None = p
    go (Some hash) = choice_plain (pointwise ◌==◌ hash from.hash) (with_sent s name from.version, Opened name from.version) (s, Unopened name (unopened.WrongHash hash)) (stays_plain s name from.version p) p

pub attached_well : (c : Shown) (s : Session) (name : Key) (from : Option VersionAt) → IsPlain s → IsWell (attached c s name from)
attached_well c s name from p = record { plain = seen_plain s name from (seen_for c s.party name) p; short = attached_short c s name from }

pub told_well : (s : Session) (name : Key) (id : IdOf) (v : Verdict) → IsPlain s → IsWell (answered s name id (answer.Verdict v))
told_well s name id v p = record { plain = p; short = told_short s.party name id v }

-- ---- what is sent

module _ (c : Shown) where
  pub all_short : (s : Session) (ns : List News) → IsPlain s → messages_of ns ≡ delivered c s → All (λ n. IsShort (message_of n)) ns
  all_short s ns plain e = news_short c s ns plain.no_peer e

  pub after_plain : (s : Session) → IsPlain s → IsPlain (after_delivery c s)
  after_plain s plain = go s.party plain.no_peer
    where
      go : (party : Party) → party_is_peer party ≡ false → IsPlain (after_for c s party)
      go Nobody e = plain
      go (User user) e = record { nowhere = plain.nowhere; no_peer = plain.no_peer; idle = ap (λ ws. is_idle (still_waiting c ws)) (none_idle s.waiting plain.idle) }
      go (Domain domain) e = absurd (true≢false e)

-- ---- replies

asked_well : (hs : List Hosted) (t : ℕ) (s : Session) (r : Request) → IsPlain s → IsShortReply r → IsWell ((asked hs t s r).session, (asked hs t s r).message)
asked_well hs t s (ask.Reply m) p short = record { plain = p; short = short }
asked_well hs t s (ask.Attach name from) p short = attached_well (shown_in hs) s name from p
asked_well hs t s (ask.Submit name submission) p short = told_well s name submission.id (judged_in hs name submission t).0 p
asked_well hs t s (ask.Have name from) p short = record { plain = p; short = tt }

module _ {A : Type 0} (f : A → Message) (may : Key → Bool) (hs gs : List Hosted) (t : ℕ) (s x : Session) (r : Request) where
  reply_well : (m : Message) → IsGood may (s, r) → reply_of gs (x, m) ≡ asked hs t s r → IsWell (x, m)
  reply_well m good e = subst (λ (y : Reply). IsWell (y.session, y.message)) (sym e) (asked_well hs t s r good.plain good.short)

  pub plain_after : (o : Result A TurnFault) → IsGood may (s, r) → IfOk o (λ a. reply_of gs (x, f a) ≡ asked hs t s r) → OnErr o (x ≡ s) → IsPlain x
  plain_after (Ok a) good e same = (reply_well (f a) good e).plain
  plain_after (Err x) good e same = subst IsPlain (sym same) good.plain

  pub short_after : (o : Result A TurnFault) → IsGood may (s, r) → IfOk o (λ a. reply_of gs (x, f a) ≡ asked hs t s r) → IfOk o (λ a. IsShort (f a))
  short_after (Ok a) good e = (reply_well (f a) good e).short
  short_after (Err x) good e = tt
