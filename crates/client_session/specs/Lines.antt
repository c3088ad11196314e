-- What is printed: one line, but for a screen.
--     reason_name r           the name of a reason of the server
--     verdict_said v          what is said of a submission that the server refused
--     unopened_said r         of an opening; nothing where the state was too large to be sent
--     closed_said r, bad_said r     of a wavelet that is open no more; of a message
--     fault_said e            of a call of the follower that was refused, by its number
--     IsFaultSaid e s         this is said of it, and it isn't want of memory
--     said_text s             the lines
use Rattle.std.specs.Prelude.{◌≡◌, ℕ, List, [], ◌++◌, codes, decimal}
use Rattle.follower_rules.specs.declared.fault.FollowerFault.{FollowerFault}
use Rattle.follower_rules.specs.declared.fault.FollowerFault.TheVariants as fault
use Rattle.wavelet_json.specs.declared.reason.BadReason.{BadReason}
use Rattle.wavelet_json.specs.declared.reason.BadReason.TheVariants as bad
use Rattle.wavelet_json.specs.declared.reason.ClosedReason.{ClosedReason}
use Rattle.wavelet_json.specs.declared.reason.ClosedReason.TheVariants as closed
use Rattle.wavelet_json.specs.declared.reason.UnopenedReason.{UnopenedReason}
use Rattle.wavelet_json.specs.declared.reason.UnopenedReason.TheVariants as unopened
use Rattle.wavelet_op.specs.declared.verdict.Verdict.{Verdict}
use Rattle.wavelet_op.specs.declared.verdict.Verdict.TheVariants as verdict
use Rattle.client_session.specs.declared.said.Reason.{Reason}
use Rattle.client_session.specs.declared.said.Reason.TheVariants as reason
use Rattle.client_session.specs.declared.said.Said.{Said}
use Rattle.client_session.specs.declared.said.Said.TheVariants.{Nothing, Unknown, NoWavelet, Refused, NothingToUndo, Diverged, Server, Screen}

abbrev pub reason_name : Reason → List ℕ
reason_name reason.NotParticipant = codes "NotParticipant"
reason_name reason.ReadOnly = codes "ReadOnly"
reason_name reason.UnknownVersion = codes "UnknownVersion"
reason_name reason.WrongHash = codes "WrongHash"
reason_name reason.Invalid = codes "Invalid"
reason_name reason.Full = codes "Full"
reason_name reason.Asked = codes "asked"
reason_name reason.Access = codes "access"
reason_name reason.TooLong = codes "TooLong"
reason_name reason.NotJson = codes "NotJson"
reason_name reason.TooMany = codes "TooMany"
reason_name reason.NotMessage = codes "NotMessage"
reason_name reason.BadUser = codes "BadUser"
reason_name reason.NotOpen = codes "NotOpen"
reason_name reason.NoHost = codes "NoHost"
reason_name reason.Store = codes "Store"

-- ---- of refusals

-- what is refused isn't acknowledged
abbrev pub verdict_said : Verdict → Said
verdict_said (verdict.Ack place to) = Nothing
verdict_said verdict.NotParticipant = Server reason.NotParticipant
verdict_said verdict.ReadOnly = Server reason.ReadOnly
verdict_said (verdict.UnknownVersion head) = Server reason.UnknownVersion
verdict_said (verdict.WrongHash host) = Server reason.WrongHash
verdict_said (verdict.Invalid index) = Server reason.Invalid
verdict_said (verdict.Full head) = Server reason.Full

abbrev pub unopened_said : UnopenedReason → Said
unopened_said unopened.NotParticipant = Server reason.NotParticipant
unopened_said (unopened.UnknownVersion head) = Server reason.UnknownVersion
unopened_said (unopened.WrongHash host) = Server reason.WrongHash
unopened_said unopened.TooLarge = Nothing

abbrev pub closed_said : ClosedReason → Said
closed_said closed.Asked = Server reason.Asked
closed_said closed.Access = Server reason.Access

abbrev pub bad_said : BadReason → Said
bad_said bad.TooLong = Server reason.TooLong
bad_said bad.NotJson = Server reason.NotJson
bad_said bad.TooMany = Server reason.TooMany
bad_said bad.NotMessage = Server reason.NotMessage
bad_said bad.BadUser = Server reason.BadUser
bad_said bad.NotOpen = Server reason.NotOpen
bad_said bad.NoHost = Server reason.NoHost
bad_said bad.Store = Server reason.Store

-- want of memory is no refusal
abbrev pub fault_said : FollowerFault → Said
fault_said (fault.OpInvalid index) = Refused 15
fault_said fault.EditFull = Refused 22
fault_said fault.TooBig = Refused 23
fault_said fault.NumbersSpent = Refused 24
fault_said fault.Memory = Nothing

abbrev pub IsFaultSaid : FollowerFault → Said → Type 0
IsFaultSaid (fault.OpInvalid index) s = s ≡ Refused 15
IsFaultSaid fault.EditFull s = s ≡ Refused 22
IsFaultSaid fault.TooBig s = s ≡ Refused 23
IsFaultSaid fault.NumbersSpent s = s ≡ Refused 24
IsFaultSaid fault.Memory s = ⊥

-- ---- as text

abbrev pub said_text : Said → List ℕ
said_text Nothing = []
said_text Unknown = codes "! unknown command\n"
said_text NoWavelet = codes "! no wavelet\n"
said_text (Refused n) = codes "! refused " ++ decimal n ++ codes "\n"
said_text NothingToUndo = codes "! nothing to undo\n"
said_text Diverged = codes "! diverged\n"
said_text (Server r) = codes "! server " ++ reason_name r ++ codes "\n"
said_text (Screen t) = t
