-- What is written has no float.
use Rattle.std.proofs.Common.{◌≡◌, ℕ, List, None, Some, false, refl}
use Rattle.std.specs.FinMap.{keys}
use Rattle.serde_json.specs.Written.{has_float}
use Rattle.op_json.proofs.Floats.{op_clear}
use Rattle.wavelet_op.specs.States.{State, document_of}
use Rattle.wavelet_op.specs.declared.verdict.Verdict.{Verdict}
use Rattle.wavelet_op.specs.declared.verdict.Verdict.TheVariants as verdict
use Rattle.wavelet_json.proofs.Floats.{list_clear, role_clear, ops_clear}
use Rattle.wavelet_json.specs.declared.reason.UnopenedReason.{UnopenedReason}
use Rattle.wavelet_json.specs.declared.reason.UnopenedReason.TheVariants as unopened
use Rattle.snapshot_json.specs.Write.{insertion_of, member_data, document_data, members_data, documents_data}
use Rattle.message_json.specs.Write.{message_data, unopened_data, verdict_data, relayed_data}
use Rattle.message_json.specs.declared.message.Message.{Message}
use Rattle.message_json.specs.declared.message.Message.TheVariants.{Hello, OpenWavelet, Submit, CloseWavelet, Welcome, Opened, Snapshot, Unopened, Ack, Refused, Queued, Update, Closed, Bad, Peer, Have, Relay, Applied, Relayed, Dropped}
use Rattle.wave_base.specs.Versions.{IdOf}
use Rattle.wave_messages.specs.Write.{line_data}

members_clear : (s : State) → has_float (members_data s) ≡ false
members_clear s = list_clear (member_data s) (λ a. rw (role_clear _) refl) (keys s.roles)

documents_clear : (s : State) → has_float (documents_data s) ≡ false
documents_clear s = list_clear (document_data s) (λ d. rw (op_clear (insertion_of (document_of s d))) refl) (keys s.documents)

verdict_clear : (name : List ℕ) (client number : ℕ) (v : Verdict) → has_float (verdict_data name client number v) ≡ false
verdict_clear name client number (verdict.Ack place to) = refl
verdict_clear name client number verdict.NotParticipant = refl
verdict_clear name client number verdict.ReadOnly = refl
verdict_clear name client number (verdict.UnknownVersion head) = refl
verdict_clear name client number (verdict.WrongHash host) = refl
verdict_clear name client number (verdict.Invalid index) = refl
verdict_clear name client number (verdict.Full head) = refl

relayed_clear : (name : List ℕ) (id : IdOf) (v : Verdict) → has_float (relayed_data name id v) ≡ false
relayed_clear name id (verdict.Ack place to) = refl
relayed_clear name id verdict.NotParticipant = refl
relayed_clear name id verdict.ReadOnly = refl
relayed_clear name id (verdict.UnknownVersion head) = refl
relayed_clear name id (verdict.WrongHash host) = refl
relayed_clear name id (verdict.Invalid index) = refl
relayed_clear name id (verdict.Full head) = refl

unopened_clear : (name : List ℕ) (r : UnopenedReason) → has_float (unopened_data name r) ≡ false
unopened_clear name unopened.NotParticipant = refl
unopened_clear name (unopened.UnknownVersion head) = refl
unopened_clear name (unopened.WrongHash host) = refl
unopened_clear name unopened.TooLarge = refl

pub message_clear : (m : Message) → has_float (message_data m) ≡ false
message_clear (Hello user) = refl
message_clear (OpenWavelet name None) = refl
message_clear (OpenWavelet name (Some from)) = refl
message_clear (Submit name client number from ops) = rw (ops_clear ops) refl
message_clear (CloseWavelet name) = refl
message_clear (Welcome user) = refl
message_clear (Opened name version) = refl
message_clear (Snapshot s) = rw (documents_clear s.state, members_clear s.state) refl
message_clear (Unopened name reason) = unopened_clear name reason
message_clear (Ack name client number place to) = refl
message_clear (Refused name client number v) = verdict_clear name client number v
message_clear (Queued name client number) = refl
message_clear (Update name d) = rw (ops_clear d.ops) refl
message_clear (Closed name reason) = refl
message_clear (Bad reason) = refl
message_clear (Peer domain) = refl
message_clear (Have name from) = refl
message_clear (Relay name s) = rw (ops_clear s.ops) refl
message_clear (Applied name d) = refl
message_clear (Relayed name id v) = relayed_clear name id v
message_clear (Dropped name) = refl

pub line_clear : (session : List ℕ) (m : Message) → has_float (line_data session (message_data m)) ≡ false
line_clear session m = rw (message_clear m) refl
