-- A run of the client: lines and looks at the link, in the order in which they come.
--     Step                a line that was read; or what a look at the link gave
--     Phase               where a run stands: it reads the next line; it looks at the link, and so many messages came since the line; it
--                         waits for what is under way, and has looked in vain and has got messages so often; it was left; or the server
--                         closed the link
--     RunOf               the machine of the client, the phase, what the link's list has more, and what was printed
--     max_looks           how often one line looks in vain, and how many messages it gets, at most
--     sends ms            messages, as the link's list has them
--     acted r a           what the machine did is sent and printed
--     looked r j          it goes on looking, or reads the next line
--     synced r i j        it goes on waiting, while there is something to wait for and it may
--     lined r a           the run after a line, by what the machine did
--     reply_of m b        what the machine makes of the bytes of a message; those that are no message are passed over
--     heard r b           the run after the bytes of a message
--     begun user key      at the start: the client said who it is
--     IsStep p r st s     the step leads from one run to another, in a phase
--     IsWalk r sts s      the steps, the newest first, lead from one run to another
--     lines_in sts        the lines that were read
use Rattle.std.specs.Prelude.{◌≡◌, ℕ, ◌+◌, ◌==◌, ◌||◌, cond, List, [], ◌∷◌, ◌++◌, map, Result, Ok, Err, codes}
use Rattle.doc_items.specs.Maps.{Key}
use Rattle.serde_json.specs.Written.{compact_text}
use Rattle.wave_outside.specs.declared.link.LinkEvent.{LinkEvent}
use Rattle.wave_outside.specs.declared.link.LinkEvent.TheVariants.{Received, Idle, Ended, Sent}
use Rattle.message_json.specs.Write.{message_data}
use Rattle.message_json.specs.declared.message.Message.{Message}
use Rattle.wave_messages.specs.Read.{read_of}
use Rattle.wave_messages.specs.declared.fault.Kind.{Kind}
use Rattle.client_commands.specs.Lines.{command_of}
use Rattle.client_session.specs.Answers.{quiet, printed}
use Rattle.client_session.specs.Machine.{MachineOf, Acted, IsCommanded, received, greeted, new_machine, is_waiting}
use Rattle.client_session.specs.declared.acts.Acts.{Acts}

pub data Step : Type 0 where
  Line : List ℕ → Step
  Look : LinkEvent → Step

pub data Phase : Type 0 where
  Reading : Phase
  Looking : ℕ → Phase
  Syncing : ℕ → ℕ → Phase
  Left : Phase
  Closed : Phase

pub record RunOf : Type 0 where
  pub machine : MachineOf
  pub phase : Phase
  pub events : List LinkEvent
  pub text : List ℕ

abbrev pub max_looks : ℕ
max_looks = 1000000

-- the most bytes of a message to a client
abbrev pub max_peer : ℕ
max_peer = 16777216

-- ---- what changes a run

abbrev pub sends : List Message → List LinkEvent
sends ms = map (λ m. Sent (compact_text (message_data m))) ms

abbrev pub acted : RunOf → Acted → RunOf
acted r a = record { machine = a.0; phase = r.phase; events = r.events ++ sends a.1.send; text = r.text ++ printed a.1 }

abbrev pub in_phase : Phase → RunOf → RunOf
in_phase p r = record { machine = r.machine; phase = p; events = r.events; text = r.text }

abbrev pub polled : RunOf → LinkEvent → RunOf
polled r e = record { machine = r.machine; phase = r.phase; events = r.events ++ e ∷ []; text = r.text }

abbrev pub says : RunOf → List ℕ → RunOf
says r t = record { machine = r.machine; phase = r.phase; events = r.events; text = r.text ++ t }

abbrev pub looked : ℕ → RunOf → RunOf
looked j r = in_phase (cond (j == max_looks) Reading (Looking j)) r

abbrev pub unsettled : RunOf → RunOf
unsettled r = looked 0 (says r (codes "! not settled\n"))

abbrev pub synced : ℕ → ℕ → RunOf → RunOf
synced i j r = cond (is_waiting r.machine) (cond (i == max_looks || j == max_looks) (unsettled r) (in_phase (Syncing i j) r)) (looked 0 r)

abbrev pub lined : Acts → RunOf → RunOf
lined a r = cond a.ends (in_phase Left r) (cond a.waits (synced 0 0 r) (looked 0 r))

abbrev pub reply_as : MachineOf → Result Message Kind → Acted
reply_as m (Ok x) = received m x
reply_as m (Err k) = (m, quiet)

abbrev pub reply_of : MachineOf → List ℕ → Acted
reply_of m b = reply_as m (read_of b max_peer)

abbrev pub heard : RunOf → List ℕ → RunOf
heard r b = acted (polled r (Received b)) (reply_of r.machine b)

abbrev pub begun_by : Acted → RunOf
begun_by a = record { machine = a.0; phase = Reading; events = sends a.1.send; text = printed a.1 }

abbrev pub begun : Key → ℕ → RunOf
begun user client = begun_by (greeted (new_machine user client))

-- ---- steps

abbrev pub IsLineStep : RunOf → List ℕ → RunOf → Type 0
IsLineStep r l s = (a : Acted) × IsCommanded r.machine (command_of l) a × (s ≡ lined a.1 (acted r a))

abbrev pub IsLooking : ℕ → RunOf → LinkEvent → RunOf → Type 0
IsLooking j r (Received b) s = s ≡ looked (j + 1) (heard r b)
IsLooking j r Idle s = s ≡ in_phase Reading (polled r Idle)
IsLooking j r Ended s = s ≡ in_phase Closed (polled r Ended)
IsLooking j r (Sent b) s = ⊥

abbrev pub IsSyncing : ℕ → ℕ → RunOf → LinkEvent → RunOf → Type 0
IsSyncing i j r (Received b) s = s ≡ synced i (j + 1) (heard r b)
IsSyncing i j r Idle s = s ≡ synced (i + 1) j (polled r Idle)
IsSyncing i j r Ended s = s ≡ in_phase Closed (polled r Ended)
IsSyncing i j r (Sent b) s = ⊥

abbrev pub IsStep : Phase → RunOf → Step → RunOf → Type 0
IsStep Reading r (Line l) s = IsLineStep r l s
IsStep Reading r (Look e) s = ⊥
IsStep (Looking j) r (Line l) s = ⊥
IsStep (Looking j) r (Look e) s = IsLooking j r e s
IsStep (Syncing i j) r (Line l) s = ⊥
IsStep (Syncing i j) r (Look e) s = IsSyncing i j r e s
IsStep Left r st s = ⊥
IsStep Closed r st s = ⊥

abbrev pub IsWalk : RunOf → List Step → RunOf → Type 0
IsWalk r [] s = s ≡ r
IsWalk r (st ∷ sts) s = (t : RunOf) × IsWalk r sts t × IsStep t.phase t st s

abbrev pub lines_in : List Step → List (List ℕ)
lines_in [] = []
lines_in (Line l ∷ sts) = lines_in sts ++ l ∷ []
lines_in (Look e ∷ sts) = lines_in sts
