-- Who is sent what.
--     party_in ss n      who the session of the name is: nobody where there is none
--     IsAckTo hs p m     an acknowledgement is what the history keeps for an id of this user: the version at which the delta was applied,
--                        and the hashed version after it
--     IsMeant p s        whoever the session is may be sent the message as the histories are, and it is so where it is an acknowledgement
--     IsIdle s           no submission of the session waits
--     IsOrdered p        the sessions ascend by their names, and none of them waits for anything
--     SentIsMeant        the law: at the start the machine is so; each turn leaves it so; and whatever a turn sends is meant for its
--                        session
use Rattle.std.specs.Prelude.{◌≡◌, ℕ, cond, List, [], ◌∷◌, map, Some}
use Rattle.std.specs.List.{All, AllByRecursion}
use Rattle.doc_items.specs.Maps.{Key, same_text}
use Rattle.wave_base.specs.Versions.{VersionAt}
use Rattle.delta_history.specs.Copying.{AreAscending}
use Rattle.delta_history.specs.Points.{start as start_of}
use Rattle.delta_history.specs.Verdicts.{kept}
use Rattle.message_json.specs.declared.message.Message.{Message}
use Rattle.message_json.specs.declared.message.Message.TheVariants.{Hello, OpenWavelet, Submit, CloseWavelet, Welcome, Opened, Snapshot, Unopened, Ack, Refused, Queued, Update, Closed, Bad, Peer, Have, Relay, Applied, Relayed, Dropped}
use Rattle.session_core.specs.declared.session.Party.{Party}
use Rattle.session_core.specs.declared.session.Party.TheVariants.{Nobody, User, Domain}
use Rattle.session_core.specs.Access.{MaySee}
use Rattle.wavelet_shelf.specs.Hosting.{Hosted, names_of, deltas_in}
use Rattle.pipe_machine.specs.declared.seats.Seat.{Seat}
use Rattle.pipe_machine.specs.Lines.{Sent}
use Rattle.hosted_copies.specs.Shown.{shown_in}
use Rattle.pipe_machine.specs.Machine.{Pipe, start, turn}

abbrev pub party_in : List Seat → Key → Party
party_in [] n = Nobody
party_in (s ∷ ss) n = cond (same_text n s.name) s.session.party (party_in ss n)

abbrev pub IsAckOf : List Hosted → Party → Key → ℕ → ℕ → ℕ → VersionAt → Type 0
IsAckOf hs Nobody name client number place to = ⊥
IsAckOf hs (User user) name client number place to = kept (record { author = user; client = client; number = number }) (start_of name)
    (deltas_in hs name) ≡ Some (record { at = place; to = to })
IsAckOf hs (Domain domain) name client number place to = ⊥

abbrev pub IsAckTo : List Hosted → Party → Message → Type 0
IsAckTo hs p (Hello user) = Unit {0}
IsAckTo hs p (OpenWavelet name from) = Unit {0}
IsAckTo hs p (Submit name client number from ops) = Unit {0}
IsAckTo hs p (CloseWavelet name) = Unit {0}
IsAckTo hs p (Welcome user) = Unit {0}
IsAckTo hs p (Opened name version) = Unit {0}
IsAckTo hs p (Snapshot s) = Unit {0}
IsAckTo hs p (Unopened name reason) = Unit {0}
IsAckTo hs p (Ack name client number place to) = IsAckOf hs p name client number place to
IsAckTo hs p (Refused name client number v) = Unit {0}
IsAckTo hs p (Queued name client number) = Unit {0}
IsAckTo hs p (Update name d) = Unit {0}
IsAckTo hs p (Closed name reason) = Unit {0}
IsAckTo hs p (Bad reason) = Unit {0}
IsAckTo hs p (Peer domain) = Unit {0}
IsAckTo hs p (Have name from) = Unit {0}
IsAckTo hs p (Relay name s) = Unit {0}
IsAckTo hs p (Applied name d) = Unit {0}
IsAckTo hs p (Relayed name id v) = Unit {0}
IsAckTo hs p (Dropped name) = Unit {0}

pub record IsMeantFor (hs : List Hosted) (p : Party) (m : Message) : Type 0 where
  pub access : MaySee (shown_in hs) p m
  pub acknowledged : IsAckTo hs p m

abbrev pub IsMeant : Pipe → Sent → Type 0
IsMeant p s = IsMeantFor p.hosted (party_in p.seats s.session) s.message

abbrev pub IsIdle : Seat → Type 0
IsIdle s = s.session.waiting ≡ []

pub record IsOrdered (p : Pipe) : Type 0 where
  pub hosted : AreAscending (names_of p.hosted)
  pub seats : AreAscending (map (λ s. s.name) p.seats)
  pub idle : AllByRecursion IsIdle p.seats

pub record SentIsMeant : Type 0 where
  pub at_start : (hs : List Hosted) → AreAscending (names_of hs) → IsOrdered (start hs)
  pub ordered : (p : Pipe) (t : ℕ) (line : List ℕ) → IsOrdered p → IsOrdered (turn p t line).pipe
  pub meant : (p : Pipe) (t : ℕ) (line : List ℕ) → IsOrdered p → All (IsMeant (turn p t line).pipe) (turn p t line).sent
