-- What a session is sent, and what it is replied.
--     message_of n        the message that news stand for
--     messages_of ns      those of a list, in order
--     deltas_of o         the deltas of a history: none where there is none
--     IsPlaced c n        a delta stands at its place in the copy of its wavelet
--     ArePlaced c ns      each of them does
--     StayPlaced c ns ns' each of the second list does where each of the first does
--     reply_message r     the message of a reply
use Rattle.std.specs.Prelude.{◌≡◌, List, [], map, slice_get, Option, Some, None}
use Rattle.std.specs.List.{All}
use Rattle.wavelet_op.specs.Deltas.{DeltaOf}
use Rattle.delta_history.specs.Histories.{HistoryOf}
use Rattle.message_json.specs.declared.message.Message.{Message}
use Rattle.message_json.specs.declared.message.Message.TheVariants as message
use Rattle.session_core.specs.declared.news.News.{News}
use Rattle.session_core.specs.declared.news.News.TheVariants as news
use Rattle.session_core.specs.declared.news.Reply.{Reply}
use Rattle.session_core.specs.declared.news.Reply.TheVariants as reply
use Rattle.session_core.specs.Access.{Shown}

abbrev pub message_of : News → Message
message_of (news.Update name place delta) = message.Update name.now delta.now
message_of (news.Applied name place delta) = message.Applied name.now delta.now
message_of (news.Message m) = m

abbrev pub messages_of : List News → List Message
messages_of ns = map message_of ns

abbrev pub deltas_of : Option HistoryOf → List DeltaOf
deltas_of None = []
deltas_of (Some h) = h.deltas

abbrev pub IsPlaced : Shown → News → Type 0
IsPlaced c (news.Update name place delta) = slice_get (deltas_of (c.copy name.now)) place ≡ Some delta.now
IsPlaced c (news.Applied name place delta) = slice_get (deltas_of (c.copy name.now)) place ≡ Some delta.now
IsPlaced c (news.Message m) = Unit {0}

abbrev pub ArePlaced : Shown → List News → Type 0
ArePlaced c ns = All (IsPlaced c) ns

abbrev pub StayPlaced : Shown → List News → List News → Type 0
StayPlaced c before after = ArePlaced c before → ArePlaced c after

abbrev pub reply_message : Reply → Message
reply_message (reply.Message m) = m
reply_message (reply.Snapshot s) = message.Snapshot s
