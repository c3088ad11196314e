-- What a client sends is short: no message of it has the bytes of a delta.
--     greeted_short, short_greeted     on a new link
--     commanded_short                  after a line
--     received_short, short_of         after a message
use Rattle.std.proofs.Common.{◌≡◌, sym, subst, ℕ, Bool, true, false, cond, List, [], ◌∷◌, Option, Some, None, Ok, Err, slice_get}
use Rattle.std.specs.List.{All}
use Rattle.std.specs.Option.{option_map}
use Rattle.std.proofs.lemmas.List.Elements.{All-nil, All-cons, All-append}
use Rattle.doc_items.specs.Maps.{Key, same_text}
use Rattle.wave_base.specs.Versions.{IdOf}
use Rattle.wavelet_op.specs.Deltas.{DeltaOf}
use Rattle.wavelet_op.specs.declared.delta.Submission.{Submission}
use Rattle.wavelet_state.specs.Snapshots.{SnapshotOf}
use Rattle.wavelet_json.specs.declared.reason.BadReason.{BadReason}
use Rattle.wavelet_json.specs.declared.reason.UnopenedReason.{UnopenedReason}
use Rattle.wavelet_json.specs.declared.reason.UnopenedReason.TheVariants as unopened
use Rattle.message_json.specs.Write.{IsShort}
use Rattle.message_json.specs.declared.message.Message.{Message}
use Rattle.message_json.specs.declared.message.Message.TheVariants as message
use Rattle.follower_rules.specs.Followers.{FollowerOf, Flight, pending, refuse, point_of, take_snapshot}
use Rattle.follower_rules.specs.Receiving.{receive}
use Rattle.follower_rules.specs.Submitting.{Submitted, submit}
use Rattle.follower_rules.specs.declared.received.Received.{Received}
use Rattle.follower_rules.specs.declared.received.Received.TheVariants as received_as
use Rattle.follower_rules.specs.declared.taken.Taken.{Taken}
use Rattle.follower_rules.specs.declared.taken.Taken.TheVariants as taken
use Rattle.client_control.specs.Parts.{settled}
use Rattle.client_commands.specs.declared.command.Command.{Command}
use Rattle.client_commands.specs.declared.command.Command.TheVariants as command
use Rattle.client_session.specs.Answers.{quiet, says}
use Rattle.client_session.specs.Editing.{handed, sent_message, submit_message, submitted_as, submit_seat}
use Rattle.client_session.specs.Lines.{bad_said}
use Rattle.client_session.specs.Machine.{MachineOf, Acted, client_of, seat_moved, on_place, on_found, submitted, finished, IsHere, IsFoundHere, IsHereAt, IsDone, IsCommanded, finished_unless, opened_at, opened, created_at, created, no_wavelet, told_by, taken_at, taken_by, taken_of, bad_as, bad_in, name_in, place_of, received, greeted}
use Rattle.client_session.specs.Seats.{SeatOf, answered, new_seat, with_follower}
use Rattle.client_session.specs.Taking.{Told, open_plain, open_at, reopened, reopen, flight_sent, ask_unless, is_asked, ack_created, snapshot_told, snapshot_named, updated, refused_told, refuse_known, unopen_seat}
use Rattle.client_session.specs.declared.acts.Acts.{Acts}
use Rattle.client_session.specs.declared.said.Said.{Said}
use Rattle.client_session.specs.declared.said.Said.TheVariants as said

none : All IsShort []
none = All-nil IsShort

one : (m : Message) → IsShort m → All IsShort (m ∷ [])
one m short = All-cons IsShort m [] short none

either : (b : Bool) (xs ys : List Message) → All IsShort xs → All IsShort ys → All IsShort (cond b xs ys)
either true xs ys p q = p
either false xs ys p q = q

abbrev AreShort : Acted → Type 0
AreShort r = All IsShort r.1.send

to_short : (r q : Acted) → r ≡ q → AreShort q → AreShort r
to_short r q e p = subst AreShort (sym e) p

-- ---- openings and submissions

sent_short : (n : Key) (o : Option Submission) → All IsShort (sent_message n o)
sent_short n None = none
sent_short n (Some s) = one (submit_message n s) tt

reopened_short : (f : FollowerOf) → All IsShort (reopened f)
reopened_short f =
    either (settled (pending f)) (open_plain f.name ∷ []) (open_at f ∷ flight_sent f)
    (one (open_plain f.name) tt)
    (All-cons IsShort (open_at f) (flight_sent f) tt (sent_short f.name (option_map (λ (g : Flight). g.sent) f.flight)))

submitted_short : (s : SeatOf) (r : Submitted) → All IsShort (submitted_as s r).1.send
submitted_short s (Err e) = none
submitted_short s (Ok r) = sent_short s.follower.name r.0

-- ---- the wavelet at a place

module _ {R : Type 0} (P : R → Type 0) (g : SeatOf → SeatOf × R) (r : R) (m : MachineOf) (other : P r) (here : (s : SeatOf) → P (g s).1) where
  moved : (i : ℕ) (o : Option SeatOf) → P (seat_moved m i r (option_map g o)).1
  moved i None = other
  moved i (Some s) = here s

  placed : (i : ℕ) → P (on_place i g r m).1
  placed i = moved i (slice_get m.seats i)

  found : (o : Option ℕ) → P (on_found o g r m).1
  found None = other
  found (Some i) = placed i

finished_short : (tells : Bool) (r : Acted) → AreShort r → AreShort (finished tells r)
finished_short tells r short = All-append IsShort r.1.send (submitted r.0).1.send short (found (λ h. All IsShort h.send) submit_seat (handed [] said.Nothing) r.0 none (λ s. submitted_short s (submit s.follower)) r.0.current)

-- ---- lines

here_short : (s : SeatOf) (c : Command) (t : Told) → IsHere s c t → All IsShort t.1.send
here_short s (command.Create name) t e = subst (λ (z : Told). All IsShort z.1.send) (sym e) none
here_short s (command.Open name) t e = subst (λ (z : Told). All IsShort z.1.send) (sym e) none
here_short s (command.Edit x) t h = subst (λ (z : Told). All IsShort z.1.send) (sym h.2) none
here_short s command.Undo t e = subst (λ (z : Told). All IsShort z.1.send) (sym e) none
here_short s command.Show t e = subst (λ (z : Told). All IsShort z.1.send) (sym e) none
here_short s command.Sync t e = subst (λ (z : Told). All IsShort z.1.send) (sym e) none
here_short s command.Drop t e = subst (λ (z : Told). All IsShort z.1.send) (sym e) none
here_short s command.Quit t e = subst (λ (z : Told). All IsShort z.1.send) (sym e) none

found_short : (m : MachineOf) (i : ℕ) (c : Command) (o : Option SeatOf) (r : Acted) → IsFoundHere m i c o r → AreShort r
found_short m i c None r e = to_short r (m, no_wavelet) e none
found_short m i c (Some s) r h = to_short r (seat_moved m i no_wavelet (Some h.0)) h.2 (here_short s c h.0 h.1)

current_short : (m : MachineOf) (o : Option ℕ) (c : Command) (r : Acted) → IsHereAt m o c r → AreShort r
current_short m None c r e = to_short r (m, no_wavelet) e none
current_short m (Some i) c r h = found_short m i c (slice_get m.seats i) r h

place_short : (m : MachineOf) (i : ℕ) → All IsShort (on_place i reopen [] m).1
place_short m i = placed (λ ms. All IsShort ms) reopen [] m none (λ s. reopened_short s.follower) i

opened_short : (m : MachineOf) (name : Key) (o : Option ℕ) → AreShort (opened_at m name o)
opened_short m name None = reopened_short (new_seat name (client_of m) false).follower
opened_short m name (Some i) = place_short m i

created_short : (m : MachineOf) (name : Key) (o : Option ℕ) → AreShort (created_at m name o)
created_short m name None = none
created_short m name (Some i) = place_short m i

done_short : (m : MachineOf) (c : Option Command) (r : Acted) → IsDone m c r → AreShort r
done_short m None r e = to_short r _ e none
done_short m (Some (command.Create name)) r e = to_short r (created m name) e (created_short m name (place_of name m.seats))
done_short m (Some (command.Open name)) r e = to_short r (opened m name) e (opened_short m name (place_of name m.seats))
done_short m (Some (command.Edit x)) r h = current_short m m.current (command.Edit x) r h
done_short m (Some command.Undo) r h = current_short m m.current command.Undo r h
done_short m (Some command.Show) r h = current_short m m.current command.Show r h
done_short m (Some command.Sync) r h = current_short m m.current command.Sync r h
done_short m (Some command.Drop) r h = current_short m m.current command.Drop r h
done_short m (Some command.Quit) r e = to_short r _ e none

unless_short : (b : Bool) (p : Acted) → AreShort p → AreShort (finished_unless b p)
unless_short true p short = short
unless_short false p short = finished_short true p short

pub commanded_short : (m : MachineOf) (c : Option Command) (r : Acted) → IsCommanded m c r → All IsShort r.1.send
commanded_short m c r h = to_short r (finished_unless h.0.1.ends h.0) h.2 (unless_short h.0.1.ends h.0 (done_short m c h.0 h.1))

-- ---- messages

ask_short : (s : SeatOf) (t : Said) (b : Bool) → All IsShort (ask_unless s t b).1.send
ask_short s t true = none
ask_short s t false = one (open_at s.follower) tt

snapshot_short : (s : SeatOf) (p : Taken × FollowerOf) → All IsShort (snapshot_told s p).1.send
snapshot_short s (taken.Took, f) = none
snapshot_short s (taken.Old, f) = none
snapshot_short s (taken.Pending, f) = ask_short (with_follower s f s.chain) said.Nothing (is_asked (with_follower s f s.chain))

named_short : (s : SeatOf) (x : SnapshotOf) (b : Bool) → All IsShort (snapshot_named s x b).1.send
named_short s x true = snapshot_short (answered s) (take_snapshot s.follower (point_of x))
named_short s x false = none

acked_short : (s : SeatOf) (b : Bool) → All IsShort (ack_created s b).1.send
acked_short s true = one _ tt
acked_short s false = none

updated_short : (s : SeatOf) (d : DeltaOf) (p : Received × FollowerOf) → All IsShort (updated s d p).1.send
updated_short s d (received_as.Old, f) = none
updated_short s d (received_as.Gap, f) = ask_short (with_follower s f s.chain) said.Nothing (is_asked (with_follower s f s.chain))
updated_short s d (received_as.Diverged mine theirs, f) = ask_short (with_follower s f s.chain) said.Diverged (is_asked (with_follower s f s.chain))
updated_short s d (received_as.OtherFlight mine theirs, f) = none
updated_short s d (received_as.NotNext index, f) = none
updated_short s d (received_as.Advanced, f) = none

refused_short : (s : SeatOf) (t : Said) (p : Bool × FollowerOf) → All IsShort (refused_told s t p).1.send
refused_short s t (true, f) = none
refused_short s t (false, f) = none

known_short : (b : Bool) (s : SeatOf) (i : IdOf) (t : Said) → All IsShort (refuse_known b s i t).1.send
known_short true s i t = refused_short s t (refuse s.follower i)
known_short false s i t = none

unopened_short : (s : SeatOf) (r : UnopenedReason) → All IsShort (unopen_seat s r).1.send
unopened_short s unopened.NotParticipant = none
unopened_short s (unopened.UnknownVersion head) = none
unopened_short s (unopened.WrongHash host) = none
unopened_short s unopened.TooLarge = one (open_at s.follower) tt

told_short : (user : Key) (s : SeatOf) (x : Message) → All IsShort (told_by user s x).1.send
told_short user s (message.Hello u) = none
told_short user s (message.OpenWavelet n a) = none
told_short user s (message.Submit n c k a o) = none
told_short user s (message.CloseWavelet n) = none
told_short user s (message.Welcome u) = none
told_short user s (message.Opened n v) = none
told_short user s (message.Snapshot x) = named_short s x (same_text x.name s.follower.name)
told_short user s (message.Unopened n r) = unopened_short s r
told_short user s (message.Ack n c k a t) = acked_short s s.created
told_short user s (message.Refused n c k v) = known_short _ s _ _
told_short user s (message.Queued n c k) = none
told_short user s (message.Update n d) = updated_short s d (receive s.follower d)
told_short user s (message.Closed n r) = none
told_short user s (message.Bad r) = none
told_short user s (message.Peer d) = none
told_short user s (message.Have n a) = none
told_short user s (message.Relay n x) = none
told_short user s (message.Applied n d) = none
told_short user s (message.Relayed n i v) = none
told_short user s (message.Dropped n) = none

taken_short : (m : MachineOf) (x : Message) (o : Option ℕ) → AreShort (taken_at m x o)
taken_short m x None = none
taken_short m x (Some i) = placed (λ (a : Acts). All IsShort a.send) (λ s. told_by m.user s x) quiet m none (λ s. told_short m.user s x) i

bad_short : (m : MachineOf) (o : Option BadReason) → AreShort (bad_as m o)
bad_short m None = none
bad_short m (Some r) = found (λ (a : Acts). All IsShort a.send) (λ s. (answered s, says (bad_said r))) (says (bad_said r)) m none (λ s. none) m.current

about_short : (m : MachineOf) (x : Message) (o : Option Key) → AreShort (taken_of m x o)
about_short m x None = bad_short m (bad_in x)
about_short m x (Some name) = taken_short m x (place_of name m.seats)

pub received_short : (m : MachineOf) (x : Message) → All IsShort (received m x).1.send
received_short m x = finished_short false (taken_by m x) (about_short m x (name_in x))

-- ---- links

pub greeted_short : (m : MachineOf) → All IsShort (greeted m).1.send
greeted_short m = All-cons IsShort _ _ tt (found (λ ms. All IsShort ms) reopen [] m none (λ s. reopened_short s.follower) m.current)

-- so of what a call gave
pub short_of : (m : MachineOf) (x : Message) (r : Acted) → r ≡ received m x → All IsShort r.1.send
short_of m x r e = to_short r (received m x) e (received_short m x)

pub short_greeted : (m : MachineOf) (r : Acted) → r ≡ greeted m → All IsShort r.1.send
short_greeted m r e = to_short r (greeted m) e (greeted_short m)
