-- What is written for each kind of message: an object with its members in byte order of their names.
--     kind_data, wavelet_member          the member `type`, and the wavelet's name as the last member
--     with_id id                         the members that say who made a delta, put among others
--     hello_data .. dropped_data         of one kind
--     message_data m                     of any
--     IsShort m                          the bytes of a delta that is written are fewer than 4,294,967,296
use Rattle.std.specs.Prelude.{◌<◌, ℕ, List, length, Option, Some, None, codes}
use Rattle.op_codec.specs.Spelling.{limit}
use Rattle.serde_json.specs.Data.{Data, Members, string, object, no_members, member, put}
use Rattle.op_json.specs.Write.{text_data}
use Rattle.wave_base.specs.Versions.{VersionAt, IdOf}
use Rattle.json_fields.specs.Write.{count_data, bytes_data}
use Rattle.wavelet_codec.specs.Spelling.{delta_bytes}
use Rattle.wavelet_op.specs.Deltas.{DeltaOf}
use Rattle.wavelet_op.specs.declared.op.WaveletOp.{WaveletOp}
use Rattle.wavelet_op.specs.declared.verdict.Verdict.{Verdict}
use Rattle.wavelet_op.specs.declared.verdict.Verdict.TheVariants as verdict
use Rattle.wavelet_state.specs.Snapshots.{SnapshotOf}
use Rattle.wavelet_json.specs.Operations.{ops_data}
use Rattle.wavelet_json.specs.Reasons.{closed_name, bad_name}
use Rattle.wavelet_json.specs.Verdicts.{with_verdict, with_unopened}
use Rattle.wavelet_json.specs.declared.reason.ClosedReason.{ClosedReason}
use Rattle.wavelet_json.specs.declared.reason.BadReason.{BadReason}
use Rattle.wavelet_json.specs.declared.reason.UnopenedReason.{UnopenedReason}
use Rattle.snapshot_json.specs.Write.{members_data, documents_data}
use Rattle.message_json.specs.declared.message.Message.{Message}
use Rattle.message_json.specs.declared.message.Message.TheVariants.{Hello, OpenWavelet, Submit, CloseWavelet, Welcome, Opened, Snapshot, Unopened, Ack, Refused, Queued, Update, Closed, Bad, Peer, Have, Relay, Applied, Relayed, Dropped}

abbrev pub wavelet_member : List ℕ → Members
wavelet_member name = member (codes "wavelet") (string name) no_members

-- the members `type` and `wavelet`
abbrev pub kind_and_wavelet : List ℕ → List ℕ → Members
kind_and_wavelet kind name = member (codes "type") (string kind) (wavelet_member name)

-- the members `type`, `version` and `wavelet`
abbrev pub kind_and_version : List ℕ → ℕ → List ℕ → Members
kind_and_version kind version name = member (codes "type") (string kind)
    (member (codes "version") (count_data version) (wavelet_member name))

abbrev pub with_id : IdOf → Members → Members
with_id id members = put (codes "author") (string id.author)
    (put (codes "client") (count_data id.client) (put (codes "number") (count_data id.number) members))

-- ---- from a client

abbrev pub hello_data : List ℕ → Data
hello_data user = object (member (codes "type") (string (codes "hello")) (member (codes "user") (text_data user) no_members))

abbrev pub open_data : List ℕ → Option VersionAt → Data
open_data name None = object (kind_and_wavelet (codes "open") name)
open_data name (Some from) = object (member (codes "hash") (bytes_data from.hash) (kind_and_version (codes "open") from.version name))

abbrev pub submit_data : List ℕ → ℕ → ℕ → VersionAt → List WaveletOp → Data
submit_data name client number from ops = object (member (codes "client") (count_data client) (member (codes "hash") (bytes_data from.hash)
    (member (codes "number") (count_data number)
    (member (codes "operations") (ops_data ops) (kind_and_version (codes "submit") from.version name)))))

abbrev pub close_data : List ℕ → Data
close_data name = object (kind_and_wavelet (codes "close") name)

-- ---- to a client

abbrev pub welcome_data : List ℕ → Data
welcome_data user = object (member (codes "type") (string (codes "welcome")) (member (codes "user") (text_data user) no_members))

abbrev pub opened_data : List ℕ → ℕ → Data
opened_data name version = object (kind_and_version (codes "opened") version name)

abbrev pub snapshot_data : SnapshotOf → Data
snapshot_data s = object (member (codes "documents") (documents_data s.state)
    (member (codes "hash") (bytes_data s.at.hash) (member (codes "inserted") (count_data s.inserted)
    (member (codes "participants") (members_data s.state) (kind_and_version (codes "snapshot") s.at.version s.name)))))

abbrev pub unopened_data : List ℕ → UnopenedReason → Data
unopened_data name reason = object (with_unopened reason (kind_and_wavelet (codes "unopened") name))

-- the members that say which submission is meant
abbrev pub serial_members : List ℕ → List ℕ → ℕ → ℕ → Members
serial_members kind name client number = member (codes "client") (count_data client)
    (member (codes "number") (count_data number) (kind_and_wavelet kind name))

abbrev pub ack_data : List ℕ → ℕ → ℕ → ℕ → VersionAt → Data
ack_data name client number place to = object (with_verdict (verdict.Ack place to) (serial_members (codes "ack") name client number))

-- the kind that tells a verdict
abbrev pub verdict_kind : Verdict → List ℕ
verdict_kind (verdict.Ack place to) = codes "ack"
verdict_kind verdict.NotParticipant = codes "refused"
verdict_kind verdict.ReadOnly = codes "refused"
verdict_kind (verdict.UnknownVersion head) = codes "refused"
verdict_kind (verdict.WrongHash host) = codes "refused"
verdict_kind (verdict.Invalid index) = codes "refused"
verdict_kind (verdict.Full head) = codes "refused"

abbrev pub verdict_data : List ℕ → ℕ → ℕ → Verdict → Data
verdict_data name client number v = object (with_verdict v (serial_members (verdict_kind v) name client number))

abbrev pub queued_data : List ℕ → ℕ → ℕ → Data
queued_data name client number = object (serial_members (codes "queued") name client number)

abbrev pub update_data : List ℕ → DeltaOf → Data
update_data name d = object
    (member (codes "author") (string d.id.author)
    (member (codes "client") (count_data d.id.client) (member (codes "hash") (bytes_data d.from.hash)
    (member (codes "number") (count_data d.id.number)
    (member (codes "operations") (ops_data d.ops)
    (member (codes "time") (count_data d.time) (kind_and_version (codes "update") d.from.version name)))))))

abbrev pub closed_data : List ℕ → ClosedReason → Data
closed_data name reason = object (member (codes "reason") (string (closed_name reason)) (kind_and_wavelet (codes "closed") name))

abbrev pub bad_data : BadReason → Data
bad_data reason = object (member (codes "reason") (string (bad_name reason)) (member (codes "type") (string (codes "bad")) no_members))

-- ---- between domains

abbrev pub peer_data : List ℕ → Data
peer_data domain = object (member (codes "domain") (string domain) (member (codes "type") (string (codes "peer")) no_members))

abbrev pub have_data : List ℕ → VersionAt → Data
have_data name from = object (member (codes "hash") (bytes_data from.hash) (kind_and_version (codes "have") from.version name))

abbrev pub relay_data : List ℕ → IdOf → VersionAt → List WaveletOp → Data
relay_data name id from ops = object
    (member (codes "author") (string id.author)
    (member (codes "client") (count_data id.client) (member (codes "hash") (bytes_data from.hash)
    (member (codes "number") (count_data id.number)
    (member (codes "operations") (ops_data ops) (kind_and_version (codes "relay") from.version name))))))

abbrev pub applied_data : List ℕ → DeltaOf → Data
applied_data name d = object
    (member (codes "delta") (bytes_data (delta_bytes d))
    (member (codes "hash") (bytes_data d.from.hash) (kind_and_version (codes "applied") d.from.version name)))

abbrev pub relayed_data : List ℕ → IdOf → Verdict → Data
relayed_data name id v = object
    (member (codes "author") (string id.author)
    (member (codes "client") (count_data id.client) (member (codes "number") (count_data id.number)
    (member (codes "type") (string (codes "relayed"))
    (member (codes "verdict") (object (with_verdict v no_members)) (wavelet_member name))))))

abbrev pub dropped_data : List ℕ → Data
dropped_data name = object (kind_and_wavelet (codes "dropped") name)

-- ---- all kinds

abbrev pub message_data : Message → Data
message_data (Hello user) = hello_data user
message_data (OpenWavelet name from) = open_data name from
message_data (Submit name client number from ops) = submit_data name client number from ops
message_data (CloseWavelet name) = close_data name
message_data (Welcome user) = welcome_data user
message_data (Opened name version) = opened_data name version
message_data (Snapshot s) = snapshot_data s
message_data (Unopened name reason) = unopened_data name reason
message_data (Ack name client number place to) = ack_data name client number place to
message_data (Refused name client number v) = verdict_data name client number v
message_data (Queued name client number) = queued_data name client number
message_data (Update name d) = update_data name d
message_data (Closed name reason) = closed_data name reason
message_data (Bad reason) = bad_data reason
message_data (Peer domain) = peer_data domain
message_data (Have name from) = have_data name from
message_data (Relay name s) = relay_data name s.id s.at s.ops
message_data (Applied name d) = applied_data name d
message_data (Relayed name id v) = relayed_data name id v
message_data (Dropped name) = dropped_data name

abbrev pub IsShort : Message → Type 0
IsShort (Applied name d) = length (delta_bytes d) < limit
IsShort m = Unit {0}
