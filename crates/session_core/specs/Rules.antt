-- What a session makes of a message that was read: the session afterwards, and what the message asks for.
--     fresh domain peers        a new session
--     has_user s, has_peer s    a `hello`, a `peer` was accepted
--     refused s r               the session stays, and the message is refused
--     is_new s                  there is neither a user nor a peer
--     fits_domain s t           the address is of the session's domain, where it has one
--     is_peer s d               the domain is among the peers
--     greeted, met              after `hello`, `peer`
--     as_user s act, as_peer s act      what is done where there is a user, a peer; another message is refused before
--     in_domain s r             the rule of a message between domains, in a session that has a domain
--     is_reached s n            the wavelet's host is the session's domain or a peer; a session without a domain reaches all
--     is_hosted s n             the wavelet's host is the session's domain
--     place_of n os, without i os     where a wavelet stands among those that are open; the others
--     closed s n, submitted s .., asked_open s ..     what is made of a client's message: a `close`, a submission, an `open`
--     told_have s .., relayed s ..      what is made of a peer's message: a `have`, a submission that it passes on
--     taken_kind s m            what is made of a message of a kind that a server takes
--     taken s m                 what is made of any message; one that no server takes is refused
--     taken_read s r            what is made of what bytes were read as
--     taken_bytes s b           what is made of bytes, read by the limit for this session
use Rattle.std.specs.Prelude.{ℕ, ◌+◌, Bool, true, false, ◌&&◌, ◌||◌, if◌then◌else◌, List, [], ◌∷◌, ◌++◌, take, drop, Option, Some, None, is_some, option_map, Result, Ok, Err}
use Rattle.std.specs.Option.{option_map_or}
use Rattle.std.specs.List.{list_any}
use Rattle.std.specs.Str.{chars, encode_utf8_all}
use Rattle.doc_items.specs.Maps.{Key, same_text}
use Rattle.wave_base.specs.Grammar.{is_address, domain_of, host_of}
use Rattle.wave_base.specs.Versions.{VersionAt}
use Rattle.wavelet_op.specs.declared.op.WaveletOp.{WaveletOp}
use Rattle.wavelet_op.specs.declared.delta.Submission.{Submission}
use Rattle.wavelet_json.specs.declared.reason.ClosedReason.TheVariants.{Asked}
use Rattle.wavelet_json.specs.declared.reason.BadReason.{BadReason}
use Rattle.wavelet_json.specs.declared.reason.BadReason.TheVariants as bad
use Rattle.wavelet_json.specs.Good.{is_count}
use Rattle.message_json.specs.declared.message.Message.{Message}
use Rattle.message_json.specs.declared.message.Message.TheVariants.{Welcome, Closed, Bad}
use Rattle.message_json.specs.declared.message.ForServer.{ForServer}
use Rattle.message_json.specs.declared.message.ForServer.TheVariants as asks
use Rattle.message_json.specs.Server.{for_server}
use Rattle.wave_messages.specs.Read.{read_of, max_client}
use Rattle.wave_messages.specs.declared.fault.Kind.{Kind}
use Rattle.wave_messages.specs.declared.fault.Kind.TheVariants as kind
use Rattle.session_core.specs.declared.session.Party.{Party}
use Rattle.session_core.specs.declared.session.Party.TheVariants.{Nobody, User, Domain}
use Rattle.session_core.specs.declared.session.Opening.{Opening}
use Rattle.session_core.specs.declared.session.Session.{Session}
use Rattle.session_core.specs.declared.request.Request.{Request}
use Rattle.session_core.specs.declared.request.Request.TheVariants as ask

abbrev pub Taken : Type 0
Taken = Session × Request

-- a new session
abbrev pub fresh : Option Key → List Key → Session
fresh domain peers = record { domain = domain; peers = peers; party = Nobody; openings = []; waiting = []; tellings = [] }

abbrev pub party_is_user : Party → Bool
party_is_user Nobody = false
party_is_user (User u) = true
party_is_user (Domain d) = false

abbrev pub party_is_peer : Party → Bool
party_is_peer Nobody = false
party_is_peer (User u) = false
party_is_peer (Domain d) = true

abbrev pub has_user : Session → Bool
has_user s = party_is_user s.party

abbrev pub has_peer : Session → Bool
has_peer s = party_is_peer s.party

abbrev pub refused : Session → BadReason → Taken
refused s reason = (s, ask.Reply (Bad reason))

-- ---- who it is

abbrev pub with_party : Session → Party → Session
with_party s party = record s { party = party }

abbrev pub is_nobody : Party → Bool
is_nobody Nobody = true
is_nobody (User u) = false
is_nobody (Domain d) = false

abbrev pub is_new : Session → Bool
is_new s = is_nobody s.party

abbrev pub fits_domain : Session → Key → Bool
fits_domain s address = option_map_or (λ d. same_text (domain_of address) d) s.domain true

abbrev pub is_user : Session → Key → Bool
is_user s text = is_address text && fits_domain s text

abbrev pub greeted : Session → List ℕ → Taken
greeted s text = if is_new s && is_user s (encode_utf8_all text)
    then (with_party s (User (encode_utf8_all text)), ask.Reply (Welcome text)) else refused s bad.BadUser

abbrev pub is_peer : Session → Key → Bool
is_peer s domain = list_any (λ peer. same_text domain peer) s.peers

abbrev pub met : Session → Key → Taken
met s domain = if is_new s && is_peer s domain
    then (with_party s (Domain domain), ask.Reply (Welcome (chars domain))) else refused s bad.BadUser

abbrev pub as_user : Session → (Key → Taken) → Party → Taken
as_user s act Nobody = refused s bad.BadUser
as_user s act (User user) = act user
as_user s act (Domain domain) = refused s bad.NotMessage

abbrev pub as_peer : Session → (Key → Taken) → Party → Taken
as_peer s act Nobody = refused s bad.BadUser
as_peer s act (User user) = refused s bad.NotMessage
as_peer s act (Domain domain) = act domain

abbrev pub in_domain : Session → Taken → Taken
in_domain s r = if is_some s.domain then r else refused s bad.NotMessage

-- ---- which wavelets

abbrev pub is_own : Key → Option Key → Bool
is_own host domain = option_map_or (λ d. same_text host d) domain false

abbrev pub is_hosted : Session → Key → Bool
is_hosted s name = is_own (host_of name) s.domain

abbrev pub is_reached : Session → Key → Bool
is_reached s name = if is_some s.domain then is_hosted s name || is_peer s (host_of name) else true

-- ---- open wavelets

abbrev pub place_of : Key → List Opening → Option ℕ
place_of name [] = None
place_of name (o ∷ os) = if same_text o.name name then Some 0 else option_map (λ i. i + 1) (place_of name os)

abbrev pub without : ℕ → List Opening → List Opening
without i os = take i os ++ drop (i + 1) os

abbrev pub with_openings : Session → List Opening → Session
with_openings s os = record s { openings = os }

abbrev pub closed_at : Session → Key → Option ℕ → Taken
closed_at s name None = refused s bad.NotOpen
closed_at s name (Some i) = (with_openings s (without i s.openings), ask.Reply (Closed name Asked))

-- ---- each kind

abbrev pub asked_open : Session → Key → Option VersionAt → Taken
asked_open s name from = as_user s (λ _. if is_reached s name then (s, ask.Attach name from) else refused s bad.NoHost) s.party

abbrev pub submission_of : Key → ℕ → ℕ → VersionAt → List WaveletOp → Submission
submission_of user client number from ops = record { id = record { author = user; client = client; number = number }; at = from; ops = ops }

abbrev pub submitted_as : Session → Key → ℕ → ℕ → VersionAt → List WaveletOp → Key → Taken
submitted_as s name client number from ops user = if is_reached s name then
    (s, ask.Submit name (submission_of user client number from ops)) else refused s bad.NoHost

abbrev pub submitted : Session → Key → ℕ → ℕ → VersionAt → List WaveletOp → Taken
submitted s name client number from ops = if is_count client && is_count number
    then as_user s (submitted_as s name client number from ops) s.party
    else refused s bad.NotMessage

abbrev pub closed : Session → Key → Taken
closed s name = as_user s (λ _. closed_at s name (place_of name s.openings)) s.party

abbrev pub told_have : Session → Key → VersionAt → Taken
told_have s name from = in_domain s (as_peer s (λ _. if is_hosted s name then (s, ask.Have name from) else refused s bad.NoHost) s.party)

abbrev pub relay_by : Session → Key → Submission → Key → Taken
relay_by s name submission domain = if same_text (domain_of submission.id.author) domain
    then (if is_hosted s name then (s, ask.Submit name submission) else refused s bad.NoHost)
    else refused s bad.BadUser

abbrev pub relayed : Session → Key → Submission → Taken
relayed s name submission = in_domain s (as_peer s (relay_by s name submission) s.party)

-- ---- any message

abbrev pub taken_kind : Session → ForServer → Taken
taken_kind s (asks.Hello user) = greeted s user
taken_kind s (asks.OpenWavelet name from) = asked_open s name from
taken_kind s (asks.Submit name client number from ops) = submitted s name client number from ops
taken_kind s (asks.CloseWavelet name) = closed s name
taken_kind s (asks.Peer domain) = in_domain s (met s domain)
taken_kind s (asks.Have name from) = told_have s name from
taken_kind s (asks.Relay name submission) = relayed s name submission

abbrev pub taken : Session → Message → Taken
taken s m = option_map_or (taken_kind s) (for_server m) (refused s bad.NotMessage)

-- ---- bytes

abbrev pub reason_of : Kind → BadReason
reason_of kind.TooLong = bad.TooLong
reason_of kind.NotJson = bad.NotJson
reason_of kind.TooMany = bad.TooMany
reason_of kind.NotMessage = bad.NotMessage

abbrev pub max_peer : ℕ
max_peer = 16777216

abbrev pub limit_of : Party → ℕ
limit_of Nobody = max_client
limit_of (User user) = max_client
limit_of (Domain domain) = max_peer

abbrev pub taken_read : Session → Result Message Kind → Taken
taken_read s (Ok m) = taken s m
taken_read s (Err k) = refused s (reason_of k)

abbrev pub taken_bytes : Session → List ℕ → Taken
taken_bytes s bytes = taken_read s (read_of bytes (limit_of s.party))
