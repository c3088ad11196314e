-- The machine of a pipe: many sessions over the hosted histories. Each line that has bytes takes one reading of the clock, is
-- answered to its session, and then every session is sent what is new to it.
--     Pipe                the histories and the seats
--     start hs            no session yet
--     asked hs t r        what a session's request is answered with: the histories, the session and the message
--     replied hs s m t    a message to a session
--     answered p t l      a line, and its reply
--     delivered p         what is new to each session, and the seats then
--     turn p t l          a line, its reply and the deliveries
--     sent p ts           what is sent for turns, one after the other
--     after p ts          the machine then
use Rattle.std.specs.Prelude.{ℕ, List, [], ◌∷◌, ◌++◌, Option, Some, None, Result, Ok, Err}
use Rattle.doc_items.specs.Maps.{Key}
use Rattle.wavelet_json.specs.declared.reason.BadReason.TheVariants as bad
use Rattle.message_json.specs.declared.message.Message.{Message}
use Rattle.message_json.specs.declared.message.Message.TheVariants.{Bad}
use Rattle.wave_messages.specs.declared.fault.Kind.{Kind}
use Rattle.wave_messages.specs.Read.{Refused, line_read}
use Rattle.session_core.specs.declared.session.Session.{Session}
use Rattle.session_core.specs.declared.request.Request.{Request}
use Rattle.session_core.specs.declared.request.Request.TheVariants as ask
use Rattle.session_core.specs.declared.request.SubmitAnswer.TheVariants as answer
use Rattle.session_core.specs.Answers.{attached, answered as told}
use Rattle.session_core.specs.Rules.{Taken, taken, reason_of}
use Rattle.wavelet_shelf.specs.Hosting.{Hosted, judged_in, after_submission}
use Rattle.hosted_copies.specs.Shown.{shown_in}
use Rattle.line_loop.specs.Turns.{Turn}
use Rattle.pipe_machine.specs.declared.seats.Seat.{Seat}
use Rattle.pipe_machine.specs.Lines.{Sent, sent_to}
use Rattle.pipe_machine.specs.Seats.{place_in, seated, seat_in, with_session, seats_sent, seats_after}

pub record Pipe : Type 0 where
  pub hosted : List Hosted
  pub seats : List Seat

abbrev pub start : List Hosted → Pipe
start hs = record { hosted = hs; seats = [] }

-- ---- replies

pub record Reply : Type 0 where
  pub hosted : List Hosted
  pub session : Session
  pub message : Message

abbrev pub reply_of : List Hosted → Session × Message → Reply
reply_of hs r = record { hosted = hs; session = r.0; message = r.1 }

-- a session of a pipe has no peers, so it never asks for the last of these
abbrev pub asked : List Hosted → ℕ → Session → Request → Reply
asked hs t s (ask.Reply m) = reply_of hs (s, m)
asked hs t s (ask.Attach name from) = reply_of hs (attached (shown_in hs) s name from)
asked hs t s (ask.Submit name submission) = reply_of (after_submission hs name submission t)
    (told s name submission.id (answer.Verdict (judged_in hs name submission t).0))
asked hs t s (ask.Have name from) = reply_of hs (s, Bad bad.NotMessage)

abbrev pub replied_to : List Hosted → ℕ → Taken → Reply
replied_to hs t r = asked hs t r.0 r.1

abbrev pub replied : List Hosted → Session → Message → ℕ → Reply
replied hs s m t = replied_to hs t (taken s m)

-- ---- lines

pub record Answer : Type 0 where
  pub pipe : Pipe
  pub sent : List Sent

abbrev pub seated_answer : List Seat → ℕ → Key → Reply → Answer
seated_answer ss i name r = record {
  pipe = record { hosted = r.hosted; seats = with_session i r.session ss };
  sent = sent_to name r.message
      ∷ [];
}

abbrev pub served_at : Pipe → ℕ → Key → Message → ℕ → List Seat → Answer
served_at p t name m i ss = seated_answer ss i name (replied p.hosted (seat_in i ss).session m t)

-- a message of a session, which is new where it wasn't there
abbrev pub served : Pipe → ℕ → Key → Message → Answer
served p t name m = served_at p t name m (place_in name 0 p.seats) (seated name p.seats)

abbrev pub named : Option Key → Key
named None = []
named (Some name) = name

abbrev pub refusal : Option Key → Kind → List Sent
refusal session k = sent_to (named session) (Bad (reason_of k)) ∷ []

abbrev pub refused : Pipe → Refused → Answer
refused p r = record { pipe = p; sent = refusal r.0 r.1 }

abbrev pub answered_read : Pipe → ℕ → Result (Key × Message) Refused → Answer
answered_read p t (Ok line) = served p t line.0 line.1
answered_read p t (Err r) = refused p r

abbrev pub answered : Pipe → ℕ → List ℕ → Answer
answered p t line = answered_read p t (line_read line)

-- ---- deliveries

abbrev pub delivered : Pipe → Answer
delivered p = record {
  pipe = record { hosted = p.hosted; seats = seats_after (shown_in p.hosted) p.seats };
  sent = seats_sent
      (shown_in p.hosted) p.seats;
}

-- ---- turns

abbrev pub turned : Answer → Answer
turned a = record { pipe = (delivered a.pipe).pipe; sent = a.sent ++ (delivered a.pipe).sent }

abbrev pub turn : Pipe → ℕ → List ℕ → Answer
turn p t line = turned (answered p t line)

abbrev pub sent : Pipe → List Turn → List Sent
sent p [] = []
sent p (t ∷ ts) = (turn p t.time t.line).sent ++ sent (turn p t.time t.line).pipe ts

abbrev pub after : Pipe → List Turn → Pipe
after p [] = p
after p (t ∷ ts) = after (turn p t.time t.line).pipe ts
