-- What is answered to what a message asked for, and the session afterwards.
--     SubmitAnswer              as it is declared: a verdict, or that the submission waits, has no host here, or couldn't be stored
--     verdict_message .., told_verdict ..     how a user and a peer are told a verdict
--     is_waiting ws n i, with_waiting ws n i  a submission waits; it waits from now on, once
--     answered s n i a          the answer to a submission
--     sent_at n v os            the wavelet is open, its deltas sent up to a version: where it was open before, else after the others
--     snapshot_of n h           the snapshot of a history's head
--     written_len s             how many bytes are written for the message of a snapshot
--     is_sendable s             it is one, and is written with at most max_peer bytes
--     seen_for c p n            the history that may be shown to whoever may open wavelets
--     attached c s n v          the answer to an `open`
--     HasLongHead c p n         the snapshot of the head of that history is written with more than max_peer bytes
--     told_at n v ts            a peer counts as told of a wavelet, its deltas sent up to a version
--     had c s n v               after a `have`
use Rattle.std.specs.Prelude.{ℕ, ◌+◌, ◌<◌, slice_set, slice_index_or, option_map, Bool, true, false, ◌&&◌, ◌||◌, ◌==◌, nat_le, if◌then◌else◌, List, [], ◌∷◌, ◌++◌, length, Option, Some, None}
use Rattle.std.specs.Cmp.Lexicographic.{pointwise}
use Rattle.doc_items.specs.Maps.{Key, same_text}
use Rattle.wave_base.specs.Versions.{VersionAt, IdOf, same_id}
use Rattle.wavelet_op.specs.declared.verdict.Verdict.{Verdict}
use Rattle.wavelet_op.specs.declared.verdict.Verdict.TheVariants as verdict
use Rattle.wavelet_state.specs.Snapshots.{SnapshotOf, is_snapshot}
use Rattle.delta_history.specs.Histories.{HistoryOf, head_of, hash_found}
use Rattle.wavelet_json.specs.declared.reason.BadReason.TheVariants as bad
use Rattle.wavelet_json.specs.declared.reason.UnopenedReason.TheVariants as unopened
use Rattle.message_json.specs.declared.message.Message.{Message}
use Rattle.message_json.specs.declared.message.Message.TheVariants.{Opened, Snapshot, Unopened, Ack, Refused, Queued, Bad, Relayed}
use Rattle.wave_messages.specs.Write.{snapshot_text}
use Rattle.session_core.specs.declared.session.Party.{Party}
use Rattle.session_core.specs.declared.session.Party.TheVariants.{Nobody, User, Domain}
use Rattle.session_core.specs.declared.session.Opening.{Opening}
use Rattle.session_core.specs.declared.session.Waiting.{Waiting}
use Rattle.session_core.specs.declared.session.Telling.{Telling}
use Rattle.session_core.specs.declared.session.Session.{Session}
use Rattle.session_core.specs.declared.request.SubmitAnswer.{SubmitAnswer}
use Rattle.session_core.specs.declared.request.SubmitAnswer.TheVariants as answer
use Rattle.session_core.specs.Rules.{place_of, with_openings, max_peer}
use Rattle.session_core.specs.Access.{Shown, seen_by}

-- ---- submissions

abbrev pub verdict_message : Key → IdOf → Verdict → Message
verdict_message name id (verdict.Ack place to) = Ack name id.client id.number place to
verdict_message name id verdict.NotParticipant = Refused name id.client id.number verdict.NotParticipant
verdict_message name id verdict.ReadOnly = Refused name id.client id.number verdict.ReadOnly
verdict_message name id (verdict.UnknownVersion head) = Refused name id.client id.number (verdict.UnknownVersion head)
verdict_message name id (verdict.WrongHash host) = Refused name id.client id.number (verdict.WrongHash host)
verdict_message name id (verdict.Invalid index) = Refused name id.client id.number (verdict.Invalid index)
verdict_message name id (verdict.Full head) = Refused name id.client id.number (verdict.Full head)

abbrev pub told_verdict : Party → Key → IdOf → Verdict → Message
told_verdict Nobody name id v = verdict_message name id v
told_verdict (User user) name id v = verdict_message name id v
told_verdict (Domain domain) name id v = Relayed name id v

abbrev pub is_waiting : List Waiting → Key → IdOf → Bool
is_waiting [] name id = false
is_waiting (w ∷ ws) name id = (same_text w.name name && same_id w.id id) || is_waiting ws name id

abbrev pub with_waiting : List Waiting → Key → IdOf → List Waiting
with_waiting ws name id = if is_waiting ws name id then ws else ws ++ record { name = name; id = id } ∷ []

abbrev pub answered : Session → Key → IdOf → SubmitAnswer → Session × Message
answered s name id (answer.Verdict v) = (s, told_verdict s.party name id v)
answered s name id answer.Queued = (record s { waiting = with_waiting s.waiting name id }, Queued name id.client id.number)
answered s name id answer.NoHost = (s, Bad bad.NoHost)
answered s name id answer.Store = (s, Bad bad.Store)

-- ---- open wavelets

abbrev pub none_open : Opening
none_open = record { name = []; sent = 0 }

-- the opening at a place, sent up to a version
abbrev pub set_sent_in : ℕ → ℕ → List Opening → List Opening
set_sent_in i v os = slice_set os i (record { name = (slice_index_or os i none_open).name; sent = v })

abbrev pub put_sent : Key → ℕ → List Opening → Option ℕ → List Opening
put_sent name v os None = os ++ record { name = name; sent = v } ∷ []
put_sent name v os (Some i) = set_sent_in i v os

abbrev pub sent_at : Key → ℕ → List Opening → List Opening
sent_at name v os = put_sent name v os (place_of name os)

abbrev pub with_sent : Session → Key → ℕ → Session
with_sent s name v = with_openings s (sent_at name v s.openings)

abbrev pub snapshot_of : Key → HistoryOf → SnapshotOf
snapshot_of name h = record { name = name; at = (head_of h).at; inserted = (head_of h).count; state = (head_of h).state }

unfoldable pub written_len : SnapshotOf → ℕ
written_len s = length (snapshot_text s)

abbrev pub is_sendable : SnapshotOf → Bool
is_sendable s = is_snapshot s.inserted s.state && nat_le (written_len s) max_peer

abbrev pub attached_head : Session → Key → SnapshotOf → Session × Message
attached_head s name snapshot = if is_sendable snapshot then (with_sent s name snapshot.at.version, Snapshot snapshot) else
    (s, Unopened name unopened.TooLarge)

abbrev pub attached_hash : Session → Key → VersionAt → VersionAt → Option (List ℕ) → Session × Message
attached_hash s name from head None = (s, Unopened name (unopened.UnknownVersion head))
attached_hash s name from head (Some hash) = if pointwise ◌==◌ hash from.hash then
    (with_sent s name from.version, Opened name from.version) else (s, Unopened name (unopened.WrongHash hash))

abbrev pub attached_seen : Session → Key → Option VersionAt → Option HistoryOf → Session × Message
attached_seen s name from None = (s, Unopened name unopened.NotParticipant)
attached_seen s name None (Some h) = attached_head s name (snapshot_of name h)
attached_seen s name (Some from) (Some h) = attached_hash s name from (head_of h).at (hash_found h from.version)

abbrev pub seen_for : Shown → Party → Key → Option HistoryOf
seen_for c Nobody name = None
seen_for c (User user) name = seen_by c name user
seen_for c (Domain domain) name = None

abbrev pub attached : Shown → Session → Key → Option VersionAt → Session × Message
attached c s name from = attached_seen s name from (seen_for c s.party name)

abbrev pub IsLongHead : Key → Option HistoryOf → Type 0
IsLongHead name None = ⊥
IsLongHead name (Some h) = max_peer < written_len (snapshot_of name h)

abbrev pub HasLongHead : Shown → Party → Key → Type 0
HasLongHead c party name = IsLongHead name (seen_for c party name)

-- ---- peers

abbrev pub place_told : Key → List Telling → Option ℕ
place_told name [] = None
place_told name (t ∷ ts) = if same_text t.name name then Some 0 else option_map (λ i. i + 1) (place_told name ts)

abbrev pub put_told : Key → ℕ → Bool → List Telling → Option ℕ → List Telling
put_told name v told ts None = ts ++ record { name = name; sent = v; told = told } ∷ []
put_told name v told ts (Some i) = slice_set ts i (record { name = name; sent = v; told = told })

abbrev pub told_at : Key → ℕ → Bool → List Telling → List Telling
told_at name v told ts = put_told name v told ts (place_told name ts)

abbrev pub had_hash : Session → Key → VersionAt → Option (List ℕ) → Session
had_hash s name from None = s
had_hash s name from (Some hash) = if pointwise ◌==◌ hash from.hash then record s { tellings = told_at name from.version true s.tellings }
    else s

abbrev pub had_copy : Session → Key → VersionAt → Option HistoryOf → Session
had_copy s name from None = s
had_copy s name from (Some h) = had_hash s name from (hash_found h from.version)

abbrev pub had : Shown → Session → Key → VersionAt → Session
had c s name from = had_copy s name from (c.copy name)
