-- Who may see what of the copies of wavelets at one moment.
--     Shown                     the copies as a session sees them: the history of a name, the names hosted here, whether a copy noted a
--                               drop, and the verdict known for a submission
--     shown_by copies c         the copies of a value, by what its type tells of them: clauses write `shown_by C.Copies copies`
--     with_hosts c ns           the same copies, of which these names alone are looked at as hosted
--     is_member h u             the address is a participant at the head of the history
--     is_of_domain d a          the address is of the domain
--     has_domain h d            an address of the domain is a participant at the head
--     seen_by c n u, seen_from c n d     the history that may be shown to a user, or to a domain: there is a copy, it isn't dropped,
--                               and the user, or an address of the domain, is a participant at its head
--     IsDeltaOf o d, IsStateOf o s     a delta, or the state at the head, of a history that may be shown
--     MaySee c p m              the party p may be sent this message: if it holds a delta or a state, then of such a history
use Rattle.std.specs.Prelude.{◌≡◌, Bool, not, ◌&&◌, cond, List, ◌∷◌, ◌++◌, Option, Some, None, is_some, option_and_then}
use Rattle.std.specs.List.{list_any}
use Rattle.std.specs.FinMap.{keys}
use Rattle.doc_items.specs.Maps.{Key, same_text}
use Rattle.wave_base.specs.Grammar.{domain_of}
use Rattle.wave_base.specs.Versions.{IdOf}
use Rattle.wavelet_op.specs.Deltas.{DeltaOf}
use Rattle.wavelet_op.specs.States.{role_of}
use Rattle.wavelet_op.specs.declared.verdict.Verdict.{Verdict}
use Rattle.wavelet_state.specs.Snapshots.{SnapshotOf}
use Rattle.delta_history.specs.Histories.{HistoryOf, head_of}
use Rattle.delta_history.specs.declared.copies.Copies as copies_of
use Rattle.message_json.specs.declared.message.Message.{Message}
use Rattle.message_json.specs.declared.message.Message.TheVariants.{Hello, OpenWavelet, Submit, CloseWavelet, Welcome, Opened, Snapshot, Unopened, Ack, Refused, Queued, Update, Closed, Bad, Peer, Have, Relay, Applied, Relayed, Dropped}
use Rattle.session_core.specs.declared.session.Party.{Party}
use Rattle.session_core.specs.declared.session.Party.TheVariants.{Nobody, User, Domain}

pub record Shown : Type 0 where
  pub copy : Key → Option HistoryOf
  pub hosts : List Key
  pub drops : Key → Bool
  pub outcome : Key → IdOf → Option Verdict

abbrev pub shown : (Key → Option HistoryOf) → List Key → (Key → Bool) → (Key → IdOf → Option Verdict) → Shown
shown copy hosts drops outcome = record { copy = copy; hosts = hosts; drops = drops; outcome = outcome }

abbrev pub shown_by : {S : Type 0} → copies_of.Ghosts S → S → Shown
shown_by told c = shown (told.copies c) (told.hosts c) (told.drops c) (told.outcomes c)

abbrev pub with_hosts : Shown → List Key → Shown
with_hosts c ns = record c { hosts = ns }

-- ---- participants

abbrev pub is_member : HistoryOf → Key → Bool
is_member h user = is_some (role_of (head_of h).state user)

abbrev pub is_of_domain : Key → Key → Bool
is_of_domain domain address = same_text (domain_of address) domain

abbrev pub has_domain : HistoryOf → Key → Bool
has_domain h domain = list_any (is_of_domain domain) (keys (head_of h).state.roles)

-- ---- what may be shown

abbrev pub seen_by : Shown → Key → Key → Option HistoryOf
seen_by c name user = option_and_then (λ h. cond (is_member h user && not (c.drops name)) (Some h) None) (c.copy name)

abbrev pub seen_from : Shown → Key → Key → Option HistoryOf
seen_from c name domain = option_and_then (λ h. cond (has_domain h domain && not (c.drops name)) (Some h) None) (c.copy name)

abbrev pub IsDeltaOf : Option HistoryOf → DeltaOf → Type 0
IsDeltaOf None d = ⊥
IsDeltaOf (Some h) d = (before : List DeltaOf) × ((behind : List DeltaOf) × (h.deltas ≡ before ++ d ∷ behind))

abbrev pub IsStateOf : Option HistoryOf → SnapshotOf → Type 0
IsStateOf None s = ⊥
IsStateOf (Some h) s = (s.at ≡ (head_of h).at) × (s.inserted ≡ (head_of h).count) × (s.state ≡ (head_of h).state)

abbrev pub UserMaySee : Shown → Key → Message → Type 0
UserMaySee c reader (Hello user) = Unit {0}
UserMaySee c reader (OpenWavelet name from) = Unit {0}
UserMaySee c reader (Submit name client number from ops) = Unit {0}
UserMaySee c reader (CloseWavelet name) = Unit {0}
UserMaySee c reader (Welcome user) = Unit {0}
UserMaySee c reader (Opened name version) = Unit {0}
UserMaySee c reader (Snapshot s) = IsStateOf (seen_by c s.name reader) s
UserMaySee c reader (Unopened name reason) = Unit {0}
UserMaySee c reader (Ack name client number place to) = Unit {0}
UserMaySee c reader (Refused name client number v) = Unit {0}
UserMaySee c reader (Queued name client number) = Unit {0}
UserMaySee c reader (Update name d) = IsDeltaOf (seen_by c name reader) d
UserMaySee c reader (Closed name reason) = Unit {0}
UserMaySee c reader (Bad reason) = Unit {0}
UserMaySee c reader (Peer domain) = Unit {0}
UserMaySee c reader (Have name from) = Unit {0}
UserMaySee c reader (Relay name s) = Unit {0}
UserMaySee c reader (Applied name d) = ⊥
UserMaySee c reader (Relayed name id v) = Unit {0}
UserMaySee c reader (Dropped name) = Unit {0}

abbrev pub DomainMaySee : Shown → Key → Message → Type 0
DomainMaySee c own (Hello user) = Unit {0}
DomainMaySee c own (OpenWavelet name from) = Unit {0}
DomainMaySee c own (Submit name client number from ops) = Unit {0}
DomainMaySee c own (CloseWavelet name) = Unit {0}
DomainMaySee c own (Welcome user) = Unit {0}
DomainMaySee c own (Opened name version) = Unit {0}
DomainMaySee c own (Snapshot s) = ⊥
DomainMaySee c own (Unopened name reason) = Unit {0}
DomainMaySee c own (Ack name client number place to) = Unit {0}
DomainMaySee c own (Refused name client number v) = Unit {0}
DomainMaySee c own (Queued name client number) = Unit {0}
DomainMaySee c own (Update name d) = ⊥
DomainMaySee c own (Closed name reason) = Unit {0}
DomainMaySee c own (Bad reason) = Unit {0}
DomainMaySee c own (Peer domain) = Unit {0}
DomainMaySee c own (Have name from) = Unit {0}
DomainMaySee c own (Relay name s) = Unit {0}
DomainMaySee c own (Applied name d) = IsDeltaOf (seen_from c name own) d
DomainMaySee c own (Relayed name id v) = Unit {0}
DomainMaySee c own (Dropped name) = Unit {0}

-- nobody may see any
abbrev pub NobodyMaySee : Message → Type 0
NobodyMaySee (Hello user) = Unit {0}
NobodyMaySee (OpenWavelet name from) = Unit {0}
NobodyMaySee (Submit name client number from ops) = Unit {0}
NobodyMaySee (CloseWavelet name) = Unit {0}
NobodyMaySee (Welcome user) = Unit {0}
NobodyMaySee (Opened name version) = Unit {0}
NobodyMaySee (Snapshot s) = ⊥
NobodyMaySee (Unopened name reason) = Unit {0}
NobodyMaySee (Ack name client number place to) = Unit {0}
NobodyMaySee (Refused name client number v) = Unit {0}
NobodyMaySee (Queued name client number) = Unit {0}
NobodyMaySee (Update name d) = ⊥
NobodyMaySee (Closed name reason) = Unit {0}
NobodyMaySee (Bad reason) = Unit {0}
NobodyMaySee (Peer domain) = Unit {0}
NobodyMaySee (Have name from) = Unit {0}
NobodyMaySee (Relay name s) = Unit {0}
NobodyMaySee (Applied name d) = ⊥
NobodyMaySee (Relayed name id v) = Unit {0}
NobodyMaySee (Dropped name) = Unit {0}

abbrev pub MaySee : Shown → Party → Message → Type 0
MaySee c Nobody m = NobodyMaySee m
MaySee c (User user) m = UserMaySee c user m
MaySee c (Domain domain) m = DomainMaySee c domain m
