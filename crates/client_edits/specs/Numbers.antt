-- The numbers of refusals.
--     build_number e, talk_number e    of an edit of a document, of a conversation; want of memory has none
--     built o                          an edit that is refused with this number
--     IsRefusedBuild P b               an edit of a document is refused for a reason of which P holds
--     IsRefusedTalk P b                so an edit of a conversation
use Rattle.std.specs.Prelude.{◌≡◌, ℕ, Option, Some, None}
use Rattle.std.specs.Option.{option_map}
use Rattle.conversation.specs.declared.fault.ConversationFault.{ConversationFault}
use Rattle.conversation.specs.declared.fault.ConversationFault.TheVariants as talk
use Rattle.op_build.specs.declared.fault.BuildFault.{BuildFault}
use Rattle.op_build.specs.declared.fault.BuildFault.TheVariants as build
use Rattle.client_edits.specs.declared.built.Built.{Built}
use Rattle.client_edits.specs.declared.built.Built.TheVariants.{Refused}

abbrev pub build_number : BuildFault → Option ℕ
build_number build.ZeroCount = Some 3
build_number build.OutOfRange = Some 12
build_number build.CutsElement = Some 13
build_number build.CountTooLarge = Some 5
build_number build.Memory = None

abbrev pub talk_number : ConversationFault → Option ℕ
talk_number (talk.NoBlip id) = Some 16
talk_number (talk.TakenId id) = Some 20
talk_number talk.CountTooLarge = Some 5
talk_number talk.Memory = None

abbrev pub built : Option ℕ → Option Built
built n = option_map Refused n

abbrev pub IsRefusedBuild : (BuildFault → Type 0) → ℕ → Type 0
IsRefusedBuild P n = (e : BuildFault) × (build_number e ≡ Some n) × P e

abbrev pub IsRefusedTalk : (ConversationFault → Type 0) → ℕ → Type 0
IsRefusedTalk P n = (e : ConversationFault) × (talk_number e ≡ Some n) × P e
