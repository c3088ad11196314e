-- What polls and sends leave in a link's list: `polled`, of one result; `received` and `sent`, the messages of a list. `tells_close`, a
-- poll that tells the peer's close; `IsUnused`, a link that was just handed out.
use Rattle.std.specs.Prelude.{◌≡◌, ℕ, List, [], ◌∷◌, Bool, true, false, Result, Ok, Err}
use Rattle.wave_outside.specs.declared.link.LinkEvent.{LinkEvent}
use Rattle.wave_outside.specs.declared.link.LinkEvent.TheVariants.{Received, Idle, Ended, Sent}
use Rattle.wave_outside.specs.declared.link.LinkFault.{LinkFault}
use Rattle.wave_outside.specs.declared.link.Polled.{Polled}
use Rattle.wave_outside.specs.declared.link.Polled.TheVariants.{Message, Nothing, Closed}

-- what an answer to a poll adds to the list
abbrev pub event_of_poll : Polled → LinkEvent
event_of_poll (Message v) = Received v.items
event_of_poll Nothing = Idle
event_of_poll Closed = Ended

-- what a poll with this result adds to the list
abbrev pub polled : Result Polled LinkFault → List LinkEvent
polled (Ok p) = event_of_poll p ∷ []
polled (Err e) = []

-- the poll told that the peer closed the link
abbrev pub tells_close : Polled → Bool
tells_close (Message v) = false
tells_close Nothing = false
tells_close Closed = true

-- the messages that came
abbrev pub received : List LinkEvent → List (List ℕ)
received [] = []
received (Received m ∷ es) = m ∷ received es
received (Idle ∷ es) = received es
received (Ended ∷ es) = received es
received (Sent m ∷ es) = received es

-- the messages that were sent
abbrev pub sent : List LinkEvent → List (List ℕ)
sent [] = []
sent (Received m ∷ es) = sent es
sent (Idle ∷ es) = sent es
sent (Ended ∷ es) = sent es
sent (Sent m ∷ es) = m ∷ sent es

-- a link with this count of faults and this list, of which it may tell a close, was not used yet
pub record IsUnused (faults : ℕ) (events : List LinkEvent) (closed : Bool) : Type 0 where
  pub faultless : faults ≡ 0
  pub empty : events ≡ []
  pub unclosed : closed ≡ false
