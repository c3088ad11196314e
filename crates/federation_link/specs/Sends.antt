-- What is sent to another domain, and what was asked before.
--     sent_as m            a message, as a link's list has it
--     have c, relay r      how far a copy reaches; a submission that waits for an answer
--     greeting d cs rs     what a new link begins with: for which domain this one speaks, how far its copies reach, and what waits
--     item_calls f k xs    what was asked, place by place from one on, until there was nothing more
--     copy_calls d k cs    the calls that asked so for the copies of a domain
--     relay_calls d k rs   the calls that asked so for the submissions that wait for it
--     noted r              a submission that was sent and has no answer yet
--     has ws r             the submission is among those that were noted
--     fresh ws rs          the submissions that weren't sent yet, where those were
--     WasSent es w         a submission of that name and id was sent
use Rattle.std.specs.Prelude.{◌≡◌, ℕ, ◌+◌, Bool, if◌then◌else◌, List, [], ◌∷◌, ◌++◌, map, Option, Some, None, Result, Ok}
use Rattle.doc_items.specs.Maps.{Key}
use Rattle.serde_json.specs.Written.{compact_text}
use Rattle.wave_outside.specs.declared.link.LinkEvent.{LinkEvent}
use Rattle.wave_outside.specs.declared.link.LinkEvent.TheVariants.{Sent}
use Rattle.turn_lock.specs.declared.cell.Spent.{Spent}
use Rattle.wavelet_op.specs.declared.delta.Submission.{Submission}
use Rattle.message_json.specs.Write.{message_data}
use Rattle.message_json.specs.declared.message.Message.{Message}
use Rattle.message_json.specs.declared.message.Message.TheVariants as message
use Rattle.session_core.specs.Answers.{is_waiting}
use Rattle.session_core.specs.declared.session.Waiting.{Waiting}
use Rattle.peer_turns.specs.declared.call.TurnCall.{TurnCall}
use Rattle.peer_turns.specs.declared.call.TurnCall.TheVariants.{NextRelay, NextCopy}
use Rattle.peer_turns.specs.declared.item.CopyAt.{CopyAt}
use Rattle.peer_turns.specs.declared.item.Relay.{Relay}

-- ---- messages

abbrev pub sent_as : Message → LinkEvent
sent_as m = Sent (compact_text (message_data m))

abbrev pub have : CopyAt → LinkEvent
have c = sent_as (message.Have c.name c.at)

abbrev pub relay : Relay → LinkEvent
relay r = sent_as (message.Relay r.name r.submission)

abbrev pub greeting : Key → List CopyAt → List Relay → List LinkEvent
greeting domain copies relays = sent_as (message.Peer domain) ∷ (map have copies ++ map relay relays)

-- ---- questions

abbrev pub item_calls : {X : Type 0} → (ℕ → Result (Option X) Spent → TurnCall) → ℕ → List X → List TurnCall
item_calls call place [] = call place (Ok None) ∷ []
item_calls call place (x ∷ xs) = call place (Ok (Some x)) ∷ item_calls call (place + 1) xs

abbrev pub copy_calls : Key → ℕ → List CopyAt → List TurnCall
copy_calls domain place cs = item_calls (NextCopy domain) place cs

abbrev pub relay_calls : Key → ℕ → List Relay → List TurnCall
relay_calls domain place rs = item_calls (NextRelay domain) place rs

-- ---- submissions that were sent

abbrev pub noted : Relay → Waiting
noted r = record { name = r.name; id = r.submission.id }

abbrev pub has : List Waiting → Relay → Bool
has ws r = is_waiting ws r.name r.submission.id

abbrev pub fresh : List Waiting → List Relay → List Relay
fresh ws [] = []
fresh ws (r ∷ rs) = if has ws r then fresh ws rs else r ∷ fresh (ws ++ noted r ∷ []) rs

-- among these events is one
pub record IsAmong (e : LinkEvent) (es : List LinkEvent) : Type 0 where
  pub before : List LinkEvent
  pub after : List LinkEvent
  pub split : es ≡ before ++ (e ∷ after)

pub record WasSent (es : List LinkEvent) (w : Waiting) : Type 0 where
  pub submission : Submission
  pub same : submission.id ≡ w.id
  pub sent : IsAmong (relay (record { name = w.name; submission = submission })) es
