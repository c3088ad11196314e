-- Messages as JSON tells them: an object whose member `type` names the kind, with exactly the members of this kind.
--     wavelet_of d, serial_of d     the wavelet's name; the client's key and its number for a delta
--     hello_of d .. dropped_of d    a message of one kind
--     between_named kind d          one between domains, by its kind
--     to_client_named kind d        one to a client, or between domains
--     message_named kind d          any one
--     message_of d                  the message that a value is; None for one that is none
use Rattle.std.specs.Prelude.{ℕ, cond, if◌then◌else◌, List, Option, Some, None, option_map, option_and_then, codes}
use Rattle.std.specs.Str.{bytes_eq}
use Rattle.serde_json.specs.Data.{Data}
use Rattle.serde_json.specs.Find.{as_str}
use Rattle.op_json.specs.Read.{text_of}
use Rattle.wave_base.specs.Grammar.{is_wavelet_name, is_domain}
use Rattle.wave_base.specs.Versions.{VersionAt, IdOf}
use Rattle.wavelet_op.specs.Deltas.{DeltaOf}
use Rattle.wavelet_op.specs.declared.op.WaveletOp.{WaveletOp}
use Rattle.wavelet_state.specs.Snapshots.{SnapshotOf, is_snapshot}
use Rattle.wavelet_op.specs.States.{State}
use Rattle.json_fields.specs.Read.{has_members, in_member, good_text, count_of, version_of, id_of}
use Rattle.wavelet_json.specs.Operations.{of_members, ops_of, normal_ops}
use Rattle.wavelet_json.specs.Reasons.{closed_of as closed_reason_of, bad_of as bad_reason_of}
use Rattle.wavelet_json.specs.Verdicts.{refusal_of, answer_of, unopened_of as unopened_reason_of}
use Rattle.wavelet_json.specs.Deltas.{delta_of}
use Rattle.snapshot_json.specs.Read.{state_of}
use Rattle.message_json.specs.declared.message.Message.{Message}
use Rattle.message_json.specs.declared.message.Message.TheVariants.{Hello, OpenWavelet, Submit, CloseWavelet, Welcome, Opened, Snapshot, Unopened, Ack, Refused, Queued, Update, Closed, Bad, Peer, Have, Relay, Applied, Relayed, Dropped}

abbrev pub wavelet_of : Data → Option (List ℕ)
wavelet_of d = in_member (good_text is_wavelet_name) (codes "wavelet") d

abbrev pub serial_of : Data → Option (ℕ × ℕ)
serial_of d = option_and_then (λ client. option_map (λ number. (client, number)) (in_member count_of (codes "number") d))
    (in_member count_of (codes "client") d)

-- ---- from a client

abbrev pub hello_of : Data → Option Message
hello_of d = of_members 2 d (option_map Hello (in_member text_of (codes "user") d))

abbrev pub open_head_of : Data → Option Message
open_head_of d = option_map (λ name. OpenWavelet name None) (wavelet_of d)

abbrev pub open_at_of : Data → Option Message
open_at_of d = option_and_then (λ name. option_map (λ from. OpenWavelet name (Some from)) (version_of d)) (wavelet_of d)

abbrev pub open_of : Data → Option Message
open_of d = if has_members 2 d then open_head_of d else of_members 4 d (open_at_of d)

abbrev pub submit_of : Data → Option Message
submit_of d = of_members 7 d
    (option_and_then (λ name. option_and_then (λ serial. option_and_then (λ from. option_map (λ ops. Submit name serial.0 serial.1 from ops)
    (in_member ops_of (codes "operations") d)) (version_of d)) (serial_of d)) (wavelet_of d))

abbrev pub close_of : Data → Option Message
close_of d = of_members 2 d (option_map CloseWavelet (wavelet_of d))

-- ---- to a client

abbrev pub welcome_of : Data → Option Message
welcome_of d = of_members 2 d (option_map Welcome (in_member text_of (codes "user") d))

abbrev pub opened_of : Data → Option Message
opened_of d = of_members 3 d
    (option_and_then (λ name. option_map (λ version. Opened name version) (in_member count_of (codes "version") d)) (wavelet_of d))

abbrev pub snapshot_from : List ℕ → VersionAt → ℕ → State → Option Message
snapshot_from name from inserted state = cond (is_snapshot inserted state)
    (Some (Snapshot (record { name = name; at = from; inserted = inserted; state = state }))) None

abbrev pub snapshot_of : Data → Option Message
snapshot_of d = of_members 7 d
    (option_and_then (λ name. option_and_then
    (λ from. option_and_then (λ inserted. option_and_then (λ state. snapshot_from name from inserted state)
    (state_of d)) (in_member count_of (codes "inserted") d)) (version_of d)) (wavelet_of d))

abbrev pub unopened_of : Data → Option Message
unopened_of d = option_and_then (λ name. option_map (λ reason. Unopened name reason) (unopened_reason_of d)) (wavelet_of d)

abbrev pub ack_of : Data → Option Message
ack_of d = of_members 7 d (option_and_then
    (λ name. option_and_then (λ serial. option_and_then (λ place. option_map (λ to. Ack name serial.0 serial.1 place to)
    (version_of d)) (in_member count_of (codes "at") d)) (serial_of d)) (wavelet_of d))

abbrev pub refused_of : Data → Option Message
refused_of d = option_and_then
    (λ name. option_and_then (λ serial. option_map (λ verdict. Refused name serial.0 serial.1 verdict) (refusal_of 4 d)) (serial_of d))
    (wavelet_of d)

abbrev pub queued_of : Data → Option Message
queued_of d = of_members 4 d (option_and_then (λ name. option_map (λ serial. Queued name serial.0 serial.1) (serial_of d)) (wavelet_of d))

abbrev pub update_from : List ℕ → IdOf → VersionAt → ℕ → List WaveletOp → Message
update_from name id from time ops = Update name (record { id = id; from = from; time = time; ops = ops })

abbrev pub update_of : Data → Option Message
update_of d = of_members 9 d
    (option_and_then (λ name. option_and_then
    (λ id. option_and_then (λ from. option_and_then (λ time. option_map (λ ops. update_from name id from time ops)
    (option_map normal_ops (in_member ops_of (codes "operations") d))) (in_member count_of
    (codes "time") d)) (version_of d)) (id_of d)) (wavelet_of d))

abbrev pub closed_of : Data → Option Message
closed_of d = of_members 3 d
    (option_and_then (λ name. option_map (λ reason. Closed name reason) (in_member closed_reason_of (codes "reason") d)) (wavelet_of d))

abbrev pub bad_of : Data → Option Message
bad_of d = of_members 2 d (option_map Bad (in_member bad_reason_of (codes "reason") d))

-- ---- between domains

abbrev pub peer_of : Data → Option Message
peer_of d = of_members 2 d (option_map Peer (in_member (good_text is_domain) (codes "domain") d))

abbrev pub have_of : Data → Option Message
have_of d = of_members 4 d (option_and_then (λ name. option_map (λ from. Have name from) (version_of d)) (wavelet_of d))

abbrev pub relay_of : Data → Option Message
relay_of d = of_members 8 d
    (option_and_then (λ name. option_and_then
    (λ id. option_and_then (λ from. option_map (λ ops. Relay name (record { id = id; at = from; ops = ops }))
    (in_member ops_of (codes "operations") d)) (version_of d)) (id_of d)) (wavelet_of d))

abbrev pub applied_of : Data → Option Message
applied_of d = of_members 5 d (option_and_then (λ name. option_map (λ delta. Applied name delta) (delta_of d)) (wavelet_of d))

abbrev pub relayed_of : Data → Option Message
relayed_of d = of_members 6 d (option_and_then (λ name. option_and_then (λ id. option_map (λ verdict. Relayed name id verdict)
    (in_member answer_of (codes "verdict") d)) (id_of d)) (wavelet_of d))

abbrev pub dropped_of : Data → Option Message
dropped_of d = of_members 2 d (option_map Dropped (wavelet_of d))

-- ---- all kinds

abbrev pub between_named : List ℕ → Data → Option Message
between_named kind d = if bytes_eq kind (codes "peer") then peer_of d
    else (if bytes_eq kind (codes "have") then have_of d
    else (if bytes_eq kind (codes "relay") then relay_of d
    else (if bytes_eq kind (codes "applied") then applied_of d
    else (if bytes_eq kind (codes "relayed") then relayed_of d
    else (if bytes_eq kind (codes "dropped") then dropped_of d
    else None)))))

abbrev pub to_client_named : List ℕ → Data → Option Message
to_client_named kind d = if bytes_eq kind (codes "welcome") then welcome_of d
    else (if bytes_eq kind (codes "opened") then opened_of d
    else (if bytes_eq kind (codes "snapshot") then snapshot_of d
    else (if bytes_eq kind (codes "unopened") then unopened_of d
    else (if bytes_eq kind (codes "ack") then ack_of d
    else (if bytes_eq kind (codes "refused") then refused_of d
    else (if bytes_eq kind (codes "queued") then queued_of d
    else (if bytes_eq kind (codes "update") then update_of d
    else (if bytes_eq kind (codes "closed") then closed_of d
    else (if bytes_eq kind (codes "bad") then bad_of d
    else between_named kind d)))))))))

abbrev pub message_named : List ℕ → Data → Option Message
message_named kind d = if bytes_eq kind (codes "hello") then hello_of d
    else (if bytes_eq kind (codes "open") then open_of d
    else (if bytes_eq kind (codes "submit") then submit_of d
    else (if bytes_eq kind (codes "close") then close_of d
    else to_client_named kind d)))

abbrev pub message_of : Data → Option Message
message_of d = option_and_then (λ kind. message_named kind d) (in_member as_str (codes "type") d)
