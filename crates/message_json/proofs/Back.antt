-- What is written is read back.
--     IsGoodName n, IsGoodVersion v     a name in its grammar; a version in range whose hash is read back
--     hello_back .. dropped_back        messages of each kind
use Rattle.std.proofs.Common.{◌≡◌, ◌≤◌, ◌==◌, ℕ, true, List, map, refl, ap, subst, ◌∙◌, None, Some, option_and_then, eq-eqb, arith}
use Rattle.std.specs.Option.{option_map}
use Rattle.std.proofs.lemmas.Bool.{le-leb}
use Rattle.wavelet_op.specs.States.{State}
use Rattle.wavelet_state.specs.Parts.{item_count}
use Rattle.serde_json.specs.Data.{string}
use Rattle.doc_items.specs.Limits.{max_count}
use Rattle.op_json.specs.Read.{text_of}
use Rattle.op_json.specs.Write.{text_data}
use Rattle.wave_base.specs.Grammar.{is_wavelet_name, is_address, is_domain}
use Rattle.wave_base.specs.Versions.{VersionAt, IdOf}
use Rattle.json_fields.specs.Read.{bytes_of, hash_of}
use Rattle.json_fields.specs.Write.{bytes_data}
use Rattle.wavelet_codec.specs.Reading.{delta_at}
use Rattle.wavelet_codec.specs.Spelling.{delta_bytes}
use Rattle.wavelet_op.specs.Acts.{AreNormal}
use Rattle.wavelet_op.specs.Deltas.{DeltaOf}
use Rattle.wavelet_op.specs.declared.delta.Submission.{Submission}
use Rattle.wavelet_op.specs.declared.op.WaveletOp.{WaveletOp}
use Rattle.wavelet_op.specs.declared.verdict.Verdict.{Verdict}
use Rattle.wavelet_op.specs.declared.verdict.Verdict.TheVariants as verdict
use Rattle.wavelet_json.specs.Operations.{ops_of, ops_data, normal_ops}
use Rattle.wavelet_json.proofs.Normals.{normal_stays}
use Rattle.wavelet_json.specs.declared.reason.ClosedReason.{ClosedReason}
use Rattle.wavelet_json.specs.declared.reason.ClosedReason.TheVariants as closed
use Rattle.wavelet_json.specs.declared.reason.BadReason.{BadReason}
use Rattle.wavelet_json.specs.declared.reason.BadReason.TheVariants as bad
use Rattle.wavelet_json.specs.declared.reason.UnopenedReason.{UnopenedReason}
use Rattle.wavelet_json.specs.declared.reason.UnopenedReason.TheVariants as unopened
use Rattle.wavelet_json.specs.Good.{is_count, IsGoodVersion, IsGoodVerdict, IsGoodReason}
use Rattle.wavelet_state.specs.Snapshots.{SnapshotOf, is_snapshot, max_inserted}
use Rattle.std.specs.FinMap.{keys}
use Rattle.serde_json.specs.View.{items_of}
use Rattle.snapshot_json.specs.Back.{AreMembersBack, AreDocumentsBack}
use Rattle.snapshot_json.specs.Read.{with_documents, state_of}
use Rattle.snapshot_json.specs.Write.{document_data}
use Rattle.message_json.specs.Back.{is_told, is_refusal, IsGoodName, IsGoodId, IsReadBack, InRange}
use Rattle.message_json.specs.Read.{message_of}
use Rattle.message_json.specs.Write.{hello_data, snapshot_data, open_data, submit_data, close_data, welcome_data, opened_data, unopened_data, ack_data, verdict_data, queued_data, update_data, closed_data, bad_data, peer_data, have_data, relay_data, applied_data, relayed_data, dropped_data}
use Rattle.message_json.specs.declared.message.Message.{Message}
use Rattle.message_json.specs.declared.message.Message.TheVariants.{Hello, OpenWavelet, Submit, CloseWavelet, Welcome, Opened, Snapshot, Unopened, Ack, Refused, Queued, Update, Closed, Bad, Peer, Have, Relay, Applied, Relayed, Dropped}

pub counts : (n : ℕ) → n ≤ max_count → is_count n ≡ true
counts n h = le-leb n max_count h

eqb-self : (n : ℕ) → (n == n) ≡ true
eqb-self n = eq-eqb n n refl

-- ---- from a client

pub hello_back : (u : List ℕ) → text_of (text_data u) ≡ Some u → IsReadBack (Hello u)
hello_back u h = ap (option_map Hello) h

pub open_back : (n : List ℕ) → IsGoodName n → IsReadBack (OpenWavelet n None)
open_back n h = rw h refl

pub open_at_back : (n : List ℕ) (v : VersionAt) → IsGoodName n → IsGoodVersion v → IsReadBack (OpenWavelet n (Some v))
open_at_back n v h k = rw (h, k.0, k.1) refl

pub submit_back : (n : List ℕ) (client number : ℕ) (v : VersionAt) (ops : List WaveletOp) → IsGoodName n → IsGoodVersion v → ops_of (ops_data ops) ≡ Some ops
    → InRange (Submit n client number v ops) → IsReadBack (Submit n client number v ops)
submit_back n client number v ops h k l r = rw (h, r.0, r.1, k.0, k.1, l) refl

pub close_back : (n : List ℕ) → IsGoodName n → IsReadBack (CloseWavelet n)
close_back n h = rw h refl

-- ---- to a client

pub welcome_back : (u : List ℕ) → text_of (text_data u) ≡ Some u → IsReadBack (Welcome u)
welcome_back u h = ap (option_map Welcome) h

pub opened_back : (n : List ℕ) (v : ℕ) → IsGoodName n → InRange (Opened n v) → IsReadBack (Opened n v)
opened_back n v h k = rw (h, k) refl

pub few_inserted : (n : ℕ) → n ≤ max_inserted → is_count n ≡ true
few_inserted n h = le-leb n max_count (omega (arith, h))

pub is_one : (n : ℕ) (s : State) → n ≤ max_inserted → item_count s.documents ≤ n → is_snapshot n s ≡ true
is_one n s h k = rw (le-leb n max_inserted h, le-leb (item_count s.documents) n k) refl

-- the participants and the documents are read one after the other
pub state_back : (s : SnapshotOf) → AreMembersBack s.state → AreDocumentsBack s.state → state_of (snapshot_data s) ≡ Some s.state
state_back s m d = ap (option_and_then (λ t. with_documents t (items_of (map (document_data s.state) (keys s.state.documents))))) m ∙ d s.state.roles

pub snapshot_back : (s : SnapshotOf) → IsGoodName s.name → IsGoodVersion s.at → is_count s.inserted ≡ true → is_snapshot s.inserted s.state ≡ true → state_of (snapshot_data s) ≡ Some s.state → IsReadBack (Snapshot s)
snapshot_back s h k c r l = rw (h, k.0, k.1, c, l, r) refl

-- so of its parts
pub parts_back : (s : SnapshotOf) (n : List ℕ) (v : VersionAt) (k : ℕ) (m d : State) → n ≡ s.name → v ≡ s.at → k ≡ s.inserted → m ≡ s.state → d ≡ s.state
    → IsGoodName n → IsGoodVersion v → k ≤ max_inserted → item_count s.state.documents ≤ k → AreMembersBack m → AreDocumentsBack d → IsReadBack (Snapshot s)
parts_back s n v k m d is_name is_at is_count is_m is_d name at bound items members documents =
    let b : s.inserted ≤ max_inserted = subst (λ z. z ≤ max_inserted) is_count bound in
    let i : item_count s.state.documents ≤ s.inserted = subst (λ z. item_count s.state.documents ≤ z) is_count items in
    snapshot_back s (subst IsGoodName is_name name) (subst IsGoodVersion is_at at) (few_inserted s.inserted b) (is_one s.inserted s.state b i)
    (state_back s (subst AreMembersBack is_m members) (subst AreDocumentsBack is_d documents))

pub unopened_back : (n : List ℕ) (r : UnopenedReason) → IsGoodName n → IsGoodReason r → IsReadBack (Unopened n r)
unopened_back n unopened.NotParticipant h k = rw h refl
unopened_back n (unopened.UnknownVersion head) h k = rw (h, k.0, k.1) refl
unopened_back n (unopened.WrongHash host) h k = rw (h, k) refl
unopened_back n unopened.TooLarge h k = rw h refl

pub ack_back : (n : List ℕ) (client number place : ℕ) (to : VersionAt) → IsGoodName n → IsGoodVersion to → InRange (Ack n client number place to) → IsReadBack (Ack n client number place to)
ack_back n client number place to h l r = rw (h, r.0, r.1, r.2, l.0, l.1) refl

refusal_back : (n : List ℕ) (client number : ℕ) (v : Verdict) → IsGoodName n → is_count client ≡ true → is_count number ≡ true → is_refusal v ≡ true → is_told v ≡ true → IsGoodVerdict v → IsReadBack (Refused n client number v)
refusal_back n client number (verdict.Ack place to) h i j r t g = absurd cc
refusal_back n client number verdict.NotParticipant h i j r t g = rw (h, i, j) refl
refusal_back n client number verdict.ReadOnly h i j r t g = rw (h, i, j) refl
refusal_back n client number (verdict.UnknownVersion head) h i j r t g = rw (h, i, j, g.0, g.1) refl
refusal_back n client number (verdict.WrongHash host) h i j r t g = rw (h, i, j, g) refl
refusal_back n client number (verdict.Invalid index) h i j r t g = rw (h, i, j, t) refl
refusal_back n client number (verdict.Full head) h i j r t g = rw (h, i, j, g.0, g.1) refl

pub refused_back : (n : List ℕ) (client number : ℕ) (v : Verdict) → IsGoodName n → IsGoodVerdict v → InRange (Refused n client number v) → IsReadBack (Refused n client number v)
refused_back n client number v h g r = refusal_back n client number v h r.0 r.1 r.2 r.3 g

pub queued_back : (n : List ℕ) (client number : ℕ) → IsGoodName n → InRange (Queued n client number) → IsReadBack (Queued n client number)
queued_back n client number h r = rw (h, r.0, r.1) refl

pub update_back : (n : List ℕ) (d : DeltaOf) → IsGoodName n → IsGoodId d.id → IsGoodVersion d.from → d.time ≤ max_count → ops_of (ops_data d.ops) ≡ Some d.ops → AreNormal d.ops
    → IsReadBack (Update n d)
update_back n d h g k t l m = rw (h, g.0, g.1, g.2, k.0, k.1, le-leb d.time max_count t, l, normal_stays d.ops m) refl

pub closed_back : (n : List ℕ) (r : ClosedReason) → IsGoodName n → IsReadBack (Closed n r)
closed_back n closed.Asked h = rw h refl
closed_back n closed.Access h = rw h refl

pub bad_back : (r : BadReason) → IsReadBack (Bad r)
bad_back bad.TooLong = refl
bad_back bad.NotJson = refl
bad_back bad.TooMany = refl
bad_back bad.NotMessage = refl
bad_back bad.BadUser = refl
bad_back bad.NotOpen = refl
bad_back bad.NoHost = refl
bad_back bad.Store = refl

-- ---- between domains

pub peer_back : (d : List ℕ) → is_domain d ≡ true → IsReadBack (Peer d)
peer_back d h = rw h refl

pub have_back : (n : List ℕ) (v : VersionAt) → IsGoodName n → IsGoodVersion v → IsReadBack (Have n v)
have_back n v h k = rw (h, k.0, k.1) refl

pub relay_back : (n : List ℕ) (s : Submission) → IsGoodName n → IsGoodId s.id → IsGoodVersion s.at → ops_of (ops_data s.ops) ≡ Some s.ops
    → IsReadBack (Relay n s)
relay_back n s h g k l = rw (h, g.0, g.1, g.2, k.0, k.1, l) refl

pub applied_back : (n : List ℕ) (d : DeltaOf) → IsGoodName n → IsGoodVersion d.from → bytes_of (bytes_data (delta_bytes d)) ≡ Some (delta_bytes d) → delta_at d.from.hash (delta_bytes d) ≡ Some d
    → IsReadBack (Applied n d)
applied_back n d h k l m = rw (h, k.0, k.1, l, m, eqb-self d.from.version) refl

told_back : (n : List ℕ) (i : IdOf) (v : Verdict) → IsGoodName n → IsGoodId i → is_told v ≡ true → IsGoodVerdict v → IsReadBack (Relayed n i v)
told_back n i (verdict.Ack place to) h g t k = rw (h, g.0, g.1, g.2, t, k.0, k.1) refl
told_back n i verdict.NotParticipant h g t k = rw (h, g.0, g.1, g.2) refl
told_back n i verdict.ReadOnly h g t k = rw (h, g.0, g.1, g.2) refl
told_back n i (verdict.UnknownVersion head) h g t k = rw (h, g.0, g.1, g.2, k.0, k.1) refl
told_back n i (verdict.WrongHash host) h g t k = rw (h, g.0, g.1, g.2, k) refl
told_back n i (verdict.Invalid index) h g t k = rw (h, g.0, g.1, g.2, t) refl
told_back n i (verdict.Full head) h g t k = rw (h, g.0, g.1, g.2, k.0, k.1) refl

pub relayed_back : (n : List ℕ) (i : IdOf) (v : Verdict) → IsGoodName n → IsGoodId i → IsGoodVerdict v → InRange (Relayed n i v) → IsReadBack (Relayed n i v)
relayed_back n i v h g k r = told_back n i v h g r k

pub dropped_back : (n : List ℕ) → IsGoodName n → IsReadBack (Dropped n)
dropped_back n h = rw h refl
