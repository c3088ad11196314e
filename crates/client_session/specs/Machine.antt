-- The machine of a client: what each line and each message makes of its wavelets, and what it then sends and prints.
--     MachineOf               the user, the key of the client, the wavelets in the order in which they came, and the place of the current
--                             one
--     new_machine u k         none yet
--     place_of n ss           the place of the wavelet of a name
--     on_place i g r m        what g makes of the wavelet at a place; r where there is none
--     on_current g r m        what g makes of the current wavelet; r where there is none
--     opened m n, created m n     the wavelet of a name becomes the current one
--     IsHere s c r            what a command does to the current wavelet
--     IsDone m c r            what a command itself does
--     finished tells r        after that: a submission of the current wavelet, where one is taken
--     IsCommanded m c r       all that a command does
--     IsCutShort m c n        what a command may leave where memory gave out
--     name_in x, told_by u s x     the wavelet that a message is about, and what it does there
--     taken_by m x            what a message itself does
--     received m x            all that a message does, its submission included
--     greeted m               what is sent on a new link
--     is_waiting m            the current wavelet isn't settled, or an opening of it is unanswered
use Rattle.std.specs.Prelude.{◌≡◌, ◌⊎◌, ℕ, ◌+◌, ◌==◌, Bool, true, false, cond, not, ◌||◌, ◌&&◌, nat_le, List, [], ◌∷◌, ◌++◌, map, length, Option, Some, None, slice_get, slice_set}
use Rattle.std.specs.Option.{option_map, option_map_or}
use Rattle.std.specs.Str.{chars}
use Rattle.doc_items.specs.Limits.{max_count}
use Rattle.doc_items.specs.Maps.{Key, same_text}
use Rattle.wavelet_op.specs.Acts.{Adds}
use Rattle.wavelet_json.specs.declared.reason.BadReason.{BadReason}
use Rattle.message_json.specs.declared.message.Message.{Message}
use Rattle.message_json.specs.declared.message.Message.TheVariants as message
use Rattle.follower_rules.specs.Followers.{ClientOf, pending}
use Rattle.client_control.specs.Parts.{settled}
use Rattle.client_commands.specs.declared.command.Command.{Command}
use Rattle.client_commands.specs.declared.command.Command.TheVariants as command
use Rattle.client_session.specs.Answers.{acts, quiet, says, syncing, leaving}
use Rattle.client_session.specs.Editing.{edit_seat, IsEdited, undo_seat, drop_seat, screen_of, handed, submit_seat}
use Rattle.client_session.specs.Lines.{verdict_said, bad_said}
use Rattle.client_session.specs.Seats.{SeatOf, seat_of, new_seat, answered}
use Rattle.client_session.specs.Taking.{Told, reopen, ack_seat, snapshot_seat, update_seat, refuse_known, unopen_seat, close_seat}
use Rattle.client_session.specs.declared.acts.Acts.{Acts}
use Rattle.client_session.specs.declared.acts.Handed.{Handed}
use Rattle.client_session.specs.declared.said.Said.{Said}
use Rattle.client_session.specs.declared.said.Said.TheVariants as said
use Rattle.client_session.specs.declared.state.ClientState.{ClientState}

pub record MachineOf : Type 0 where
  pub user : Key
  pub client : ℕ
  pub seats : List SeatOf
  pub current : Option ℕ

abbrev pub machine_of : ClientState → MachineOf
machine_of c = record { user = c.user; client = c.client; seats = map seat_of c.seats.items; current = c.current }

abbrev pub new_machine : Key → ℕ → MachineOf
new_machine user client = record { user = user; client = client; seats = []; current = None }

abbrev pub client_of : MachineOf → ClientOf
client_of m = record { author = m.user; client = m.client }

abbrev pub with_seats : MachineOf → List SeatOf → Option ℕ → MachineOf
with_seats m ss i = record { user = m.user; client = m.client; seats = ss; current = i }

-- ---- a wavelet at its place

abbrev pub place_of : Key → List SeatOf → Option ℕ
place_of name [] = None
place_of name (s ∷ ss) = cond (same_text s.follower.name name) (Some 0) (option_map (λ i. i + 1) (place_of name ss))

module _ {R : Type 0} where
  abbrev pub seat_moved : MachineOf → ℕ → R → Option (SeatOf × R) → MachineOf × R
  seat_moved m i r None = (m, r)
  seat_moved m i r (Some p) = (with_seats m (slice_set m.seats i p.0) m.current, p.1)

  abbrev pub on_place : ℕ → (SeatOf → SeatOf × R) → R → MachineOf → MachineOf × R
  on_place i g r m = seat_moved m i r (option_map g (slice_get m.seats i))

  abbrev pub on_found : Option ℕ → (SeatOf → SeatOf × R) → R → MachineOf → MachineOf × R
  on_found None g r m = (m, r)
  on_found (Some i) g r m = on_place i g r m

  abbrev pub on_current : (SeatOf → SeatOf × R) → R → MachineOf → MachineOf × R
  on_current g r m = on_found m.current g r m

abbrev pub Acted : Type 0
Acted = MachineOf × Acts

-- ---- the current wavelet

abbrev pub sending : SeatOf × List Message → Told
sending r = (r.0, acts r.1 said.Nothing)

abbrev pub saying : SeatOf × Said → Told
saying r = (r.0, says r.1)

abbrev pub with_seat : MachineOf → SeatOf → MachineOf
with_seat m s = with_seats m (m.seats ++ s ∷ []) (Some (length m.seats))

abbrev pub seated : MachineOf → Told → Acted
seated m r = (with_seat m r.0, r.1)

abbrev pub opened_by : ℕ → MachineOf × List Message → Acted
opened_by i r = (with_seats r.0 r.0.seats (Some i), acts r.1 said.Nothing)

abbrev pub opened_place : MachineOf → ℕ → Acted
opened_place m i = opened_by i (on_place i reopen [] m)

abbrev pub opened_at : MachineOf → Key → Option ℕ → Acted
opened_at m name None = seated m (sending (reopen (new_seat name (client_of m) false)))
opened_at m name (Some i) = opened_place m i

abbrev pub opened : MachineOf → Key → Acted
opened m name = opened_at m name (place_of name m.seats)

abbrev pub created_at : MachineOf → Key → Option ℕ → Acted
created_at m name None = seated m (saying (edit_seat (new_seat name (client_of m) true) (Adds m.user ∷ [])))
created_at m name (Some i) = opened_place m i

abbrev pub created : MachineOf → Key → Acted
created m name = created_at m name (place_of name m.seats)

-- ---- commands

abbrev pub no_wavelet : Acts
no_wavelet = says said.NoWavelet

-- what a command does to the current wavelet; the first two and the last are no commands of it
abbrev pub IsHere : SeatOf → Command → Told → Type 0
IsHere s (command.Create name) r = r ≡ (s, quiet)
IsHere s (command.Open name) r = r ≡ (s, quiet)
IsHere s (command.Edit e) r = (t : SeatOf × Said) × IsEdited s e t × (r ≡ saying t)
IsHere s command.Undo r = r ≡ saying (undo_seat s)
IsHere s command.Show r = r ≡ (s, says (said.Screen (screen_of s)))
IsHere s command.Sync r = r ≡ (s, syncing)
IsHere s command.Drop r = r ≡ (drop_seat s, quiet)
IsHere s command.Quit r = r ≡ (s, quiet)

abbrev pub IsFoundHere : MachineOf → ℕ → Command → Option SeatOf → Acted → Type 0
IsFoundHere m i c None r = r ≡ (m, no_wavelet)
IsFoundHere m i c (Some s) r = (t : Told) × IsHere s c t × (r ≡ seat_moved m i no_wavelet (Some t))

abbrev pub IsHereAt : MachineOf → Option ℕ → Command → Acted → Type 0
IsHereAt m None c r = r ≡ (m, no_wavelet)
IsHereAt m (Some i) c r = IsFoundHere m i c (slice_get m.seats i) r

abbrev pub IsCurrent : MachineOf → Command → Acted → Type 0
IsCurrent m c r = IsHereAt m m.current c r

-- what a command itself does
abbrev pub IsDone : MachineOf → Option Command → Acted → Type 0
IsDone m None r = r ≡ (m, says said.Unknown)
IsDone m (Some (command.Create name)) r = r ≡ created m name
IsDone m (Some (command.Open name)) r = r ≡ opened m name
IsDone m (Some (command.Edit e)) r = IsCurrent m (command.Edit e) r
IsDone m (Some command.Undo) r = IsCurrent m command.Undo r
IsDone m (Some command.Show) r = IsCurrent m command.Show r
IsDone m (Some command.Sync) r = IsCurrent m command.Sync r
IsDone m (Some command.Drop) r = IsCurrent m command.Drop r
IsDone m (Some command.Quit) r = r ≡ (m, leaving)

-- ---- submissions

abbrev pub submitted : MachineOf → MachineOf × Handed
submitted m = on_current submit_seat (handed [] said.Nothing) m

abbrev pub with_sent : Bool → Acts → Handed → Acts
with_sent tells a h = record {
  send = a.send
      ++ h.send;
  said = a.said;
  unsent = cond tells h.unsent said.Nothing;
  waits = a.waits;
  ends = a.ends;
}

abbrev pub finished_with : Bool → Acts → MachineOf × Handed → Acted
finished_with tells a r = (r.0, with_sent tells a r.1)

abbrev pub finished : Bool → Acted → Acted
finished tells r = finished_with tells r.1 (submitted r.0)

-- after the line that ends the run nothing is sent
abbrev pub finished_unless : Bool → Acted → Acted
finished_unless true r = r
finished_unless false r = finished true r

-- after a step
abbrev pub IsFinished : Acted → Acted → Type 0
IsFinished p r = r ≡ finished_unless p.1.ends p

abbrev pub IsCommanded : MachineOf → Option Command → Acted → Type 0
IsCommanded m c r = (p : Acted) × IsDone m c p × IsFinished p r

-- where memory gave out after a step: before its submission was taken, or after
abbrev pub IsEither : MachineOf → MachineOf → MachineOf → Type 0
IsEither m k n = (n ≡ m) ⊎ (n ≡ k)

abbrev pub IsHalted : MachineOf → MachineOf → Type 0
IsHalted m n = IsEither m (submitted m).0 n

abbrev pub IsCutShort : MachineOf → Option Command → MachineOf → Type 0
IsCutShort m c n = (n ≡ m) ⊎ ((p : Acted) × IsDone m c p × IsHalted p.0 n)

-- ---- messages

-- the wavelet that a message is about
abbrev pub name_in : Message → Option Key
name_in (message.Opened name version) = Some name
name_in (message.Snapshot x) = Some x.name
name_in (message.Unopened name r) = Some name
name_in (message.Ack name client number place to) = Some name
name_in (message.Refused name client number v) = Some name
name_in (message.Queued name client number) = Some name
name_in (message.Update name d) = Some name
name_in (message.Closed name r) = Some name
name_in x = None

-- what it does there; the user is the client's own
abbrev pub told_by : Key → SeatOf → Message → Told
told_by user s (message.Opened name version) = (answered s, quiet)
told_by user s (message.Snapshot x) = snapshot_seat s x
told_by user s (message.Unopened name r) = unopen_seat s r
told_by user s (message.Ack name client number place to) = ack_seat s
told_by user s (message.Refused name client number v) = refuse_known (nat_le client max_count && nat_le number max_count) s
    (record { author = user; client = client; number = number }) (verdict_said v)
told_by user s (message.Update name d) = update_seat s d
told_by user s (message.Closed name r) = close_seat s r
told_by user s x = (s, quiet)

abbrev pub is_close : Message → Bool
is_close (message.Closed name r) = true
is_close x = false

abbrev pub bad_in : Message → Option BadReason
bad_in (message.Bad r) = Some r
bad_in x = None

-- a wavelet that is closed is the current one no more
abbrev pub left_by : ℕ → Option ℕ → Option ℕ
left_by i None = None
left_by i (Some j) = cond (i == j) None (Some j)

abbrev pub parted : Bool → ℕ → MachineOf → MachineOf
parted false i m = m
parted true i m = with_seats m m.seats (left_by i m.current)

abbrev pub parted_acts : Bool → ℕ → Acted → Acted
parted_acts b i r = (parted b i r.0, r.1)

abbrev pub taken_at : MachineOf → Message → Option ℕ → Acted
taken_at m x None = (m, quiet)
taken_at m x (Some i) = parted_acts (is_close x) i (on_place i (λ s. told_by m.user s x) quiet m)

-- it answers each opening; only that of the current wavelet is ever looked at
abbrev pub bad_as : MachineOf → Option BadReason → Acted
bad_as m None = (m, quiet)
bad_as m (Some r) = on_current (λ s. (answered s, says (bad_said r))) (says (bad_said r)) m

abbrev pub taken_of : MachineOf → Message → Option Key → Acted
taken_of m x None = bad_as m (bad_in x)
taken_of m x (Some name) = taken_at m x (place_of name m.seats)

abbrev pub taken_by : MachineOf → Message → Acted
taken_by m x = taken_of m x (name_in x)

abbrev pub received : MachineOf → Message → Acted
received m x = finished false (taken_by m x)

abbrev pub IsMessageCutShort : MachineOf → Message → MachineOf → Type 0
IsMessageCutShort m x n = (n ≡ m) ⊎ IsHalted (taken_by m x).0 n

-- ---- links

abbrev pub greeted_with : MachineOf → MachineOf × List Message → Acted
greeted_with m r = (r.0, acts (message.Hello (chars m.user) ∷ r.1) said.Nothing)

abbrev pub greeted : MachineOf → Acted
greeted m = greeted_with m (on_current reopen [] m)

abbrev pub seat_at : List SeatOf → Option ℕ → Option SeatOf
seat_at ss None = None
seat_at ss (Some i) = slice_get ss i

abbrev pub is_open_end : SeatOf → Bool
is_open_end s = not (settled (pending s.follower)) || s.waits

abbrev pub is_waiting : MachineOf → Bool
is_waiting m = option_map_or is_open_end (seat_at m.seats m.current) false
