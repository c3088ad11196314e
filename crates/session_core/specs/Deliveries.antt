-- What a session is sent of the copies at one moment, and the session afterwards.
--     since v h                    the deltas of a history from a version on
--     updates n ds, applieds n ds  a message for each delta
--     outcome_sent, outcomes_sent, still_waiting      the outcomes of submissions that waited, and those that wait on
--     opening_sent, openings_sent  for each open wavelet of which there is a copy: its deltas that weren't sent, or that it is closed
--     opening_kept, openings_kept  what is open then, and up to where it was sent
--     telling_of ts n              what a peer was told of a wavelet
--     host_news .., host_told ..   for each hosted wavelet: its deltas, or that none of the peer's addresses is a participant any more
--     hosts_sent, hosts_told       the messages for all of them, in order, and what the peer was told then
--     delivered c s                the messages
--     after_delivery c s           the session
use Rattle.std.specs.Prelude.{ℕ, true, false, if◌then◌else◌, List, [], ◌∷◌, ◌++◌, map, drop, Option, Some, None}
use Rattle.std.specs.List.{flat_map}
use Rattle.doc_items.specs.Maps.{Key, same_text}
use Rattle.wavelet_op.specs.Deltas.{DeltaOf}
use Rattle.wavelet_op.specs.declared.verdict.Verdict.{Verdict}
use Rattle.delta_history.specs.Histories.{HistoryOf, head_of}
use Rattle.delta_history.specs.Places.{started_below}
use Rattle.wavelet_json.specs.declared.reason.ClosedReason.TheVariants.{Access}
use Rattle.message_json.specs.declared.message.Message.{Message}
use Rattle.message_json.specs.declared.message.Message.TheVariants.{Update, Closed, Applied, Dropped}
use Rattle.session_core.specs.declared.session.Party.{Party}
use Rattle.session_core.specs.declared.session.Party.TheVariants.{Nobody, User, Domain}
use Rattle.session_core.specs.declared.session.Opening.{Opening}
use Rattle.session_core.specs.declared.session.Waiting.{Waiting}
use Rattle.session_core.specs.declared.session.Telling.{Telling}
use Rattle.session_core.specs.declared.session.Session.{Session}
use Rattle.session_core.specs.declared.deliver.Fate.{Fate}
use Rattle.session_core.specs.declared.deliver.Fate.TheVariants.{Stays, Sent, Ends}
use Rattle.session_core.specs.Access.{Shown, seen_by, seen_from}
use Rattle.session_core.specs.Answers.{verdict_message, told_at}

abbrev pub since : ℕ → HistoryOf → List DeltaOf
since v h = drop (started_below v h.deltas) h.deltas

abbrev pub updates : Key → List DeltaOf → List Message
updates name ds = map (λ d. Update name d) ds

abbrev pub applieds : Key → List DeltaOf → List Message
applieds name ds = map (λ d. Applied name d) ds

-- ---- outcomes of submissions that waited

abbrev pub outcome_sent : Waiting → Option Verdict → List Message
outcome_sent w None = []
outcome_sent w (Some v) = verdict_message w.name w.id v ∷ []

abbrev pub outcomes_sent : Shown → List Waiting → List Message
outcomes_sent c ws = flat_map (λ w. outcome_sent w (c.outcome w.name w.id)) ws

abbrev pub waits_on : Waiting → Option Verdict → List Waiting
waits_on w None = w ∷ []
waits_on w (Some v) = []

abbrev pub still_waiting : Shown → List Waiting → List Waiting
still_waiting c ws = flat_map (λ w. waits_on w (c.outcome w.name w.id)) ws

-- ---- open wavelets

abbrev pub opening_news : Opening → Option HistoryOf → List Message
opening_news o None = Closed o.name Access ∷ []
opening_news o (Some h) = updates o.name (since o.sent h)

abbrev pub opening_sent : Shown → Key → Opening → Option HistoryOf → List Message
opening_sent c user o None = []
opening_sent c user o (Some h) = opening_news o (seen_by c o.name user)

abbrev pub openings_sent : Shown → Key → List Opening → List Message
openings_sent c user os = flat_map (λ o. opening_sent c user o (c.copy o.name)) os

abbrev pub opening_left : Opening → Option HistoryOf → List Opening
opening_left o None = []
opening_left o (Some h) = record { name = o.name; sent = (head_of h).at.version } ∷ []

abbrev pub opening_kept : Shown → Key → Opening → Option HistoryOf → List Opening
opening_kept c user o None = o ∷ []
opening_kept c user o (Some h) = opening_left o (seen_by c o.name user)

-- the opening with a fate
abbrev pub fated : Opening → Fate → List Opening
fated o Stays = o ∷ []
fated o (Sent v) = record { name = o.name; sent = v } ∷ []
fated o Ends = []

abbrev pub openings_kept : Shown → Key → List Opening → List Opening
openings_kept c user os = flat_map (λ o. opening_kept c user o (c.copy o.name)) os

-- ---- hosted wavelets, for a peer

abbrev pub new_telling : Key → Telling
new_telling name = record { name = name; sent = 0; told = false }

abbrev pub telling_of : Key → List Telling → Telling
telling_of name [] = new_telling name
telling_of name (t ∷ ts) = if same_text t.name name then t else telling_of name ts

abbrev pub host_news : Key → Telling → Option HistoryOf → List Message
host_news name t None = if t.told then Dropped name ∷ [] else []
host_news name t (Some h) = applieds name (since t.sent h)

abbrev pub host_told : Key → List Telling → Telling → Option HistoryOf → List Telling
host_told name ts t None = if t.told then told_at name t.sent false ts else ts
host_told name ts t (Some h) = told_at name (head_of h).at.version true ts

abbrev pub after_host : Shown → Key → List Telling → Key → List Telling
after_host c domain ts name = host_told name ts (telling_of name ts) (seen_from c name domain)

abbrev pub hosts_sent : Shown → Key → List Telling → List Key → List Message
hosts_sent c domain ts [] = []
hosts_sent c domain ts (n ∷ ns) = host_news n (telling_of n ts) (seen_from c n domain) ++ hosts_sent c domain (after_host c domain ts n) ns

abbrev pub hosts_told : Shown → Key → List Telling → List Key → List Telling
hosts_told c domain ts [] = ts
hosts_told c domain ts (n ∷ ns) = hosts_told c domain (after_host c domain ts n) ns

-- ---- all

abbrev pub delivered_to : Shown → Session → Party → List Message
delivered_to c s Nobody = []
delivered_to c s (User user) = outcomes_sent c s.waiting ++ openings_sent c user s.openings
delivered_to c s (Domain domain) = hosts_sent c domain s.tellings c.hosts

abbrev pub delivered : Shown → Session → List Message
delivered c s = delivered_to c s s.party

abbrev pub after_for : Shown → Session → Party → Session
after_for c s Nobody = s
after_for c s (User user) = record s { openings = openings_kept c user s.openings; waiting = still_waiting c s.waiting }
after_for c s (Domain domain) = record s { tellings = hosts_told c domain s.tellings c.hosts }

abbrev pub after_delivery : Shown → Session → Session
after_delivery c s = after_for c s s.party
