-- How deep what is written nests.
--     message_depth, line_depth     a message, and a line
use Rattle.std.proofs.Common.{◌≡◌, ◌≤◌, ℕ, List, [], ◌∷◌, Option, None, Some, map, refl, arith}
use Rattle.std.specs.FinMap.{entries, keys}
use Rattle.serde_json.specs.Data.{Data, depth, items_depth}
use Rattle.serde_json.specs.Read.{max_depth}
use Rattle.serde_json.specs.View.{items_of}
use Rattle.doc_items.specs.Maps.{Key, Map}
use Rattle.doc_items.specs.declared.change.Change.{Change}
use Rattle.doc_items.specs.declared.change.Boundary.{Boundary}
use Rattle.doc_op.specs.declared.component.Component.{Component}
use Rattle.doc_op.specs.declared.component.Component.TheVariants.{Retain, Characters, ElementStart, ElementEnd, DeleteCharacters, DeleteElementStart, DeleteElementEnd, ReplaceAttributes, UpdateAttributes, AnnotationBoundary}
use Rattle.op_json.specs.Write as json
use Rattle.wave_base.specs.Versions.{IdOf}
use Rattle.wavelet_op.specs.States.{State, document_of}
use Rattle.wavelet_op.specs.declared.op.WaveletOp.{WaveletOp}
use Rattle.wavelet_op.specs.declared.op.WaveletOp.TheVariants.{NoOp, Add, Remove, Mutate, SetRole}
use Rattle.wavelet_op.specs.declared.role.Role.{Role}
use Rattle.wavelet_op.specs.declared.role.Role.TheVariants.{Full, ReadOnly}
use Rattle.wavelet_op.specs.declared.verdict.Verdict.{Verdict}
use Rattle.wavelet_op.specs.declared.verdict.Verdict.TheVariants as verdict
use Rattle.wavelet_json.specs.Operations.{role_data, op_data, ops_data}
use Rattle.wavelet_json.specs.declared.reason.UnopenedReason.{UnopenedReason}
use Rattle.wavelet_json.specs.declared.reason.UnopenedReason.TheVariants as unopened
use Rattle.snapshot_json.specs.Write.{insertion_of, member_data, document_data, members_data, documents_data}
use Rattle.message_json.specs.Write.{message_data, unopened_data, verdict_data, relayed_data}
use Rattle.message_json.specs.declared.message.Message.{Message}
use Rattle.message_json.specs.declared.message.Message.TheVariants.{Hello, OpenWavelet, Submit, CloseWavelet, Welcome, Opened, Snapshot, Unopened, Ack, Refused, Queued, Update, Closed, Bad, Peer, Have, Relay, Applied, Relayed, Dropped}
use Rattle.wave_messages.specs.Write.{line_data}

-- ---- parts

each_depth : {X : Type 0} (n : ℕ) (f : X → Data) → ((x : X) → depth (f x) ≤ n) → (xs : List X) → items_depth (items_of (map f xs)) ≤ n
each_depth n f h [] = omega arith
each_depth n f h (x ∷ xs) = omega (arith, h x, each_depth n f h xs)

optional_depth : (t : Option (List ℕ)) → depth (json.optional_data t) ≡ 0
optional_depth None = refl
optional_depth (Some t) = refl

attributes_depth : (m : Map Key) → depth (json.attributes_data m) ≤ 2
attributes_depth m = omega (arith, each_depth 1 json.entry_data (λ e. omega arith) (entries m))

change_depth : (c : Change) → depth (json.change_data c) ≤ 1
change_depth c = omega (arith, optional_depth c.new, optional_depth c.old)

boundary_depth : (b : Boundary) → depth (json.boundary_data b) ≤ 3
boundary_depth b = omega (arith, each_depth 1 json.change_data change_depth b.change, each_depth 0 json.text_data (λ t. omega arith) b.end)

component_depth : (c : Component) → depth (json.component_data c) ≤ 4
component_depth (Retain n) = omega arith
component_depth (Characters text) = omega arith
component_depth (ElementStart kind attributes) = omega (arith, attributes_depth attributes)
component_depth ElementEnd = omega arith
component_depth (DeleteCharacters text) = omega arith
component_depth (DeleteElementStart kind attributes) = omega (arith, attributes_depth attributes)
component_depth DeleteElementEnd = omega arith
component_depth (ReplaceAttributes old new) = omega (arith, attributes_depth old, attributes_depth new)
component_depth (UpdateAttributes changes) = omega (arith, each_depth 1 json.change_data change_depth changes)
component_depth (AnnotationBoundary b) = omega (arith, boundary_depth b)

op_depth : (cs : List Component) → depth (json.op_data cs) ≤ 5
op_depth cs = omega (arith, each_depth 4 json.component_data component_depth cs)

role_depth : (r : Role) → depth (role_data r) ≡ 0
role_depth Full = refl
role_depth ReadOnly = refl

wavelet_op_depth : (o : WaveletOp) → depth (op_data o) ≤ 6
wavelet_op_depth NoOp = omega arith
wavelet_op_depth (Add a) = omega arith
wavelet_op_depth (Remove a) = omega arith
wavelet_op_depth (Mutate d op) = omega (arith, op_depth op)
wavelet_op_depth (SetRole a old new) = omega (arith, role_depth old, role_depth new)

ops_depth : (os : List WaveletOp) → depth (ops_data os) ≤ 7
ops_depth os = omega (arith, each_depth 6 op_data wavelet_op_depth os)

member_depth : (s : State) (a : Key) → depth (member_data s a) ≤ 1
member_depth s a = rw (role_depth _) (omega arith)

members_depth : (s : State) → depth (members_data s) ≤ 7
members_depth s = omega (arith, each_depth 1 (member_data s) (member_depth s) (keys s.roles))

document_depth : (s : State) (d : Key) → depth (document_data s d) ≤ 6
document_depth s d = omega (arith, op_depth (insertion_of (document_of s d)))

documents_depth : (s : State) → depth (documents_data s) ≤ 7
documents_depth s = omega (arith, each_depth 6 (document_data s) (document_depth s) (keys s.documents))

-- ---- messages

verdict_depth : (name : List ℕ) (client number : ℕ) (v : Verdict) → depth (verdict_data name client number v) ≤ 1
verdict_depth name client number (verdict.Ack place to) = omega arith
verdict_depth name client number verdict.NotParticipant = omega arith
verdict_depth name client number verdict.ReadOnly = omega arith
verdict_depth name client number (verdict.UnknownVersion head) = omega arith
verdict_depth name client number (verdict.WrongHash host) = omega arith
verdict_depth name client number (verdict.Invalid index) = omega arith
verdict_depth name client number (verdict.Full head) = omega arith

relayed_depth : (name : List ℕ) (id : IdOf) (v : Verdict) → depth (relayed_data name id v) ≤ 2
relayed_depth name id (verdict.Ack place to) = omega arith
relayed_depth name id verdict.NotParticipant = omega arith
relayed_depth name id verdict.ReadOnly = omega arith
relayed_depth name id (verdict.UnknownVersion head) = omega arith
relayed_depth name id (verdict.WrongHash host) = omega arith
relayed_depth name id (verdict.Invalid index) = omega arith
relayed_depth name id (verdict.Full head) = omega arith

unopened_depth : (name : List ℕ) (r : UnopenedReason) → depth (unopened_data name r) ≤ 1
unopened_depth name unopened.NotParticipant = omega arith
unopened_depth name (unopened.UnknownVersion head) = omega arith
unopened_depth name (unopened.WrongHash host) = omega arith
unopened_depth name unopened.TooLarge = omega arith

shallow : (m : Message) → depth (message_data m) ≤ 8
shallow (Hello user) = omega arith
shallow (OpenWavelet name None) = omega arith
shallow (OpenWavelet name (Some from)) = omega arith
shallow (Submit name client number from ops) = omega (arith, ops_depth ops)
shallow (CloseWavelet name) = omega arith
shallow (Welcome user) = omega arith
shallow (Opened name version) = omega arith
shallow (Snapshot s) = omega (arith, documents_depth s.state, members_depth s.state)
shallow (Unopened name reason) = omega (arith, unopened_depth name reason)
shallow (Ack name client number place to) = omega arith
shallow (Refused name client number v) = omega (arith, verdict_depth name client number v)
shallow (Queued name client number) = omega arith
shallow (Update name d) = omega (arith, ops_depth d.ops)
shallow (Closed name reason) = omega arith
shallow (Bad reason) = omega arith
shallow (Peer domain) = omega arith
shallow (Have name from) = omega arith
shallow (Relay name s) = omega (arith, ops_depth s.ops)
shallow (Applied name d) = omega arith
shallow (Relayed name id v) = omega (arith, relayed_depth name id v)
shallow (Dropped name) = omega arith

pub message_depth : (m : Message) → depth (message_data m) ≤ max_depth
message_depth m = omega (arith, shallow m)

pub line_depth : (session : List ℕ) (m : Message) → depth (line_data session (message_data m)) ≤ max_depth
line_depth session m = omega (arith, shallow m)
