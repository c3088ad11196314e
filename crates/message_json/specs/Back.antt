-- When what is written of a message is read as the same message.
--     is_told v             a verdict's place and index are in range
--     is_refusal v          the verdict is no acknowledgement
--     IsGoodName n          the wavelet's name is in its grammar
--     IsGoodId i            the author is an address, and the numbers are in range
--     IsReadBack m          what is written of the message is read as the same message
--     InRange m             what the types don't bound: numbers are in range, and what was refused is no acknowledgement
use Rattle.std.specs.Prelude.{◌≡◌, ℕ, Bool, true, false, nat_le, List, Some}
use Rattle.wave_base.specs.Grammar.{is_wavelet_name, is_address}
use Rattle.wave_base.specs.Versions.{IdOf}
use Rattle.wavelet_op.specs.declared.verdict.Verdict.{Verdict}
use Rattle.wavelet_op.specs.declared.verdict.Verdict.TheVariants as verdict
use Rattle.wavelet_json.specs.Good.{is_count}
use Rattle.message_json.specs.Read.{message_of}
use Rattle.message_json.specs.Write.{message_data}
use Rattle.message_json.specs.declared.message.Message.{Message}
use Rattle.message_json.specs.declared.message.Message.TheVariants.{Hello, OpenWavelet, Submit, CloseWavelet, Welcome, Opened, Snapshot, Unopened, Ack, Refused, Queued, Update, Closed, Bad, Peer, Have, Relay, Applied, Relayed, Dropped}

abbrev pub is_told : Verdict → Bool
is_told (verdict.Ack place to) = is_count place
is_told verdict.NotParticipant = true
is_told verdict.ReadOnly = true
is_told (verdict.UnknownVersion head) = true
is_told (verdict.WrongHash host) = true
is_told (verdict.Invalid index) = nat_le index 999
is_told (verdict.Full head) = true

abbrev pub is_refusal : Verdict → Bool
is_refusal (verdict.Ack place to) = false
is_refusal verdict.NotParticipant = true
is_refusal verdict.ReadOnly = true
is_refusal (verdict.UnknownVersion head) = true
is_refusal (verdict.WrongHash host) = true
is_refusal (verdict.Invalid index) = true
is_refusal (verdict.Full head) = true

abbrev pub IsGoodName : List ℕ → Type 0
IsGoodName n = is_wavelet_name n ≡ true

abbrev pub IsGoodId : IdOf → Type 0
IsGoodId i = (is_address i.author ≡ true) × (is_count i.client ≡ true) × (is_count i.number ≡ true)

abbrev pub IsReadBack : Message → Type 0
IsReadBack m = message_of (message_data m) ≡ Some m

abbrev pub InRange : Message → Type 0
InRange (Hello user) = Unit {0}
InRange (OpenWavelet name from) = Unit {0}
InRange (Submit name client number from ops) = (is_count client ≡ true) × (is_count number ≡ true)
InRange (CloseWavelet name) = Unit {0}
InRange (Welcome user) = Unit {0}
InRange (Opened name version) = is_count version ≡ true
InRange (Snapshot s) = Unit {0}
InRange (Unopened name reason) = Unit {0}
InRange (Ack name client number place to) = (is_count client ≡ true) × (is_count number ≡ true) × (is_count place ≡ true)
InRange (Refused name client number v) = (is_count client ≡ true) × (is_count number ≡ true) × (is_refusal v ≡ true) × (is_told v ≡ true)
InRange (Queued name client number) = (is_count client ≡ true) × (is_count number ≡ true)
InRange (Update name d) = Unit {0}
InRange (Closed name reason) = Unit {0}
InRange (Bad reason) = Unit {0}
InRange (Peer domain) = Unit {0}
InRange (Have name from) = Unit {0}
InRange (Relay name s) = Unit {0}
InRange (Applied name d) = Unit {0}
InRange (Relayed name id v) = is_told v ≡ true
InRange (Dropped name) = Unit {0}
