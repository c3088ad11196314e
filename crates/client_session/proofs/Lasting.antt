-- Each step of a client keeps its wavelets undoable.
--     place_all, current_all, submitted_all      what is done to the wavelet at a place, to the current one, and its submission
--     told_undoable           what a message does to its wavelet
--     done_all                what a command does
--     begin_is_undoable, line_is_undoable, message_is_undoable, link_is_undoable      the laws
use Rattle.std.proofs.Common.{◌≡◌, ℕ, Bool, true, false, ◌&&◌, nat_le, [], ◌∷◌, ◌++◌, slice_get, Option, None, Some, refl, sym, subst, arith}
use Rattle.std.specs.List.{All}
use Rattle.std.specs.Option.{option_map}
use Rattle.std.proofs.lemmas.List.Elements.{All-nil, All-push}
use Rattle.doc_items.specs.Limits.{max_count}
use Rattle.doc_items.specs.Maps.{Key}
use Rattle.wave_base.specs.Versions.{IdOf}
use Rattle.wavelet_op.specs.Acts.{Adds, meanings}
use Rattle.wavelet_json.specs.declared.reason.BadReason.{BadReason}
use Rattle.wavelet_json.specs.declared.reason.UnopenedReason.{UnopenedReason}
use Rattle.wavelet_json.specs.declared.reason.UnopenedReason.TheVariants as unopened
use Rattle.message_json.specs.declared.message.Message.{Message}
use Rattle.message_json.specs.declared.message.Message.TheVariants as message
use Rattle.client_commands.specs.declared.command.Command.{Command}
use Rattle.client_commands.specs.declared.command.Command.TheVariants as command
use Rattle.client_commands.specs.declared.command.Edit.{Edit}
use Rattle.client_edits.specs.Asked.{IsBuilt}
use Rattle.client_edits.specs.declared.built.Built.{Built}
use Rattle.client_edits.specs.declared.built.Built.TheVariants.{Ops, Refused}
use Rattle.client_session.specs.Answers.{quiet, says}
use Rattle.client_session.specs.Editing.{edit_seat, edit_built, IsEdited, handed, submit_seat}
use Rattle.client_session.specs.Lines.{verdict_said, bad_said}
use Rattle.client_session.specs.Machine.{MachineOf, Acted, client_of, place_of, seat_moved, on_place, on_found, no_wavelet, opened_place, opened_at, opened, created_at, created, IsHere, IsFoundHere, IsHereAt, IsCurrent, IsDone, submitted, finished_unless, told_by, is_close, bad_in, name_in, parted_acts, taken_at, bad_as, taken_of, taken_by}
use Rattle.client_session.specs.Seats.{SeatOf, shown, new_seat, answered}
use Rattle.client_session.specs.Taking.{Told, reopen, ack_created, refuse_known, unopen_seat}
use Rattle.client_session.specs.Undoing.{IsUndoable, AreUndoable, IsFit, BeginIsUndoable, LineIsUndoable, MessageIsUndoable, LinkIsUndoable}
use Rattle.client_session.specs.declared.said.Said.{Said}
use Rattle.client_session.specs.declared.said.Said.TheVariants as said
use Rattle.client_session.proofs.Leading.{all_at, all_set, built_few}
use Rattle.client_session.proofs.Undoing.{new_undoable, edit_undoable, undo_undoable, drop_undoable, submit_undoable, refusal_undoable, snapshot_undoable, update_undoable}

-- a wavelet that differs in what is opened
opened_so : (s : SeatOf) (created : Bool) (asked : Option ℕ) (waits : Bool) → IsUndoable s → IsUndoable (record { follower = s.follower; chain = s.chain; created = created; asked = asked; waits = waits })
opened_so s created asked waits h = record { followed = record { sound = h.followed.sound; whole = h.followed.whole; shows = h.followed.shows; in_turn = h.followed.in_turn }; few = h.few; light = h.light }

-- ---- places

module _ {R : Type 0} (g : SeatOf → SeatOf × R) (r : R) (Q : SeatOf → Type 0) (keeps : (s : SeatOf) → Q s → IsUndoable s → IsUndoable (g s).0) where
  pub place_all : (m : MachineOf) (i : ℕ) → All Q m.seats → AreUndoable m → AreUndoable (on_place i g r m).0
  place_all m i q h = go (slice_get m.seats i) refl
    where
      go : (o : Option SeatOf) → slice_get m.seats i ≡ o → AreUndoable (seat_moved m i r (option_map g o)).0
      go None e = h
      go (Some s) e = all_set IsUndoable m.seats i (g s).0 (keeps s (all_at Q m.seats i s e q) (all_at IsUndoable m.seats i s e h)) h

  pub found_all : (m : MachineOf) (o : Option ℕ) → All Q m.seats → AreUndoable m → AreUndoable (on_found o g r m).0
  found_all m None q h = h
  found_all m (Some i) q h = place_all m i q h

reopen_keeps : (s : SeatOf) → IsUndoable s → IsUndoable s → IsUndoable (reopen s).0
reopen_keeps s h k = opened_so s s.created s.asked true k

submit_keeps : (s : SeatOf) → IsUndoable s → IsUndoable s → IsUndoable (submit_seat s).0
submit_keeps s h k = submit_undoable s k

submitted_all : (m : MachineOf) → AreUndoable m → AreUndoable (submitted m).0
submitted_all m h = found_all submit_seat (handed [] said.Nothing) IsUndoable submit_keeps m m.current h h

finished_all : (b : Bool) (p : Acted) → AreUndoable p.0 → AreUndoable (finished_unless b p).0
finished_all true p h = h
finished_all false p h = submitted_all p.0 h

-- ---- commands

opened_place_all : (m : MachineOf) (i : ℕ) → AreUndoable m → AreUndoable (opened_place m i).0
opened_place_all m i h = place_all reopen [] IsUndoable reopen_keeps m i h h

seated_all : (m : MachineOf) (s : SeatOf) → IsUndoable s → AreUndoable m → All IsUndoable (m.seats ++ s ∷ [])
seated_all m s k h = All-push IsUndoable m.seats s h k

opened_all : (m : MachineOf) (name : Key) → AreUndoable m → AreUndoable (opened m name).0
opened_all m name h = go (place_of name m.seats)
  where
    go : (o : Option ℕ) → AreUndoable (opened_at m name o).0
    go None = let k = new_undoable name (client_of m) false in seated_all m (reopen (new_seat name (client_of m) false)).0 (reopen_keeps (new_seat name (client_of m) false) k k) h
    go (Some i) = opened_place_all m i h

created_all : (m : MachineOf) (name : Key) → AreUndoable m → AreUndoable (created m name).0
created_all m name h = go (place_of name m.seats)
  where
    go : (o : Option ℕ) → AreUndoable (created_at m name o).0
    go None =
        let s = new_seat name (client_of m) true in
        seated_all m (edit_seat s (Adds m.user ∷ [])).0 (edit_undoable s (Adds m.user ∷ []) (omega arith) (new_undoable name (client_of m) true)) h
    go (Some i) = opened_place_all m i h

edit_keeps : (s : SeatOf) (e : Edit) (r : SeatOf × Said) → IsUndoable s → IsEdited s e r → IsUndoable r.0
edit_keeps s e r h x = subst (λ (z : SeatOf × Said). IsUndoable z.0) (sym x.2) (go x.0 x.1)
  where
    go : (b : Built) → IsBuilt (shown s.follower) e b → IsUndoable (edit_built s b).0
    go (Ops ops) u = edit_undoable s (meanings ops) (built_few (shown s.follower) e ops u) h
    go (Refused n) u = h

same_told : (s : SeatOf) (r t : Told) → r ≡ t → IsUndoable t.0 → IsUndoable r.0
same_told s r t e h = subst (λ (z : Told). IsUndoable z.0) (sym e) h

here_keeps : (s : SeatOf) (c : Command) (r : Told) → IsUndoable s → IsHere s c r → IsUndoable r.0
here_keeps s (command.Create name) r h x = same_told s r _ x h
here_keeps s (command.Open name) r h x = same_told s r _ x h
here_keeps s (command.Edit e) r h x = same_told s r _ x.2 (edit_keeps s e x.0 h x.1)
here_keeps s command.Undo r h x = same_told s r _ x (undo_undoable s h)
here_keeps s command.Show r h x = same_told s r _ x h
here_keeps s command.Sync r h x = same_told s r _ x h
here_keeps s command.Drop r h x = same_told s r _ x (drop_undoable s h)
here_keeps s command.Quit r h x = same_told s r _ x h

same_acted : (p q : Acted) → p ≡ q → AreUndoable q.0 → AreUndoable p.0
same_acted p q e h = subst (λ (z : Acted). AreUndoable z.0) (sym e) h

current_all : (m : MachineOf) (c : Command) (p : Acted) → AreUndoable m → IsCurrent m c p → AreUndoable p.0
current_all m c p h x = by m.current x
  where
    found : (i : ℕ) (o : Option SeatOf) → slice_get m.seats i ≡ o → IsFoundHere m i c o p → AreUndoable p.0
    found i None e q = same_acted p (m, no_wavelet) q h
    found i (Some s) e q = same_acted p _ q.2 (all_set IsUndoable m.seats i q.0.0 (here_keeps s c q.0 (all_at IsUndoable m.seats i s e h) q.1) h)

    by : (o : Option ℕ) → IsHereAt m o c p → AreUndoable p.0
    by None q = same_acted p (m, no_wavelet) q h
    by (Some i) q = found i (slice_get m.seats i) refl q

done_all : (m : MachineOf) (c : Option Command) (p : Acted) → AreUndoable m → IsDone m c p → AreUndoable p.0
done_all m None p h x = same_acted p _ x h
done_all m (Some (command.Create name)) p h x = same_acted p _ x (created_all m name h)
done_all m (Some (command.Open name)) p h x = same_acted p _ x (opened_all m name h)
done_all m (Some (command.Edit e)) p h x = current_all m (command.Edit e) p h x
done_all m (Some command.Undo) p h x = current_all m command.Undo p h x
done_all m (Some command.Show) p h x = current_all m command.Show p h x
done_all m (Some command.Sync) p h x = current_all m command.Sync p h x
done_all m (Some command.Drop) p h x = current_all m command.Drop p h x
done_all m (Some command.Quit) p h x = same_acted p _ x h

-- ---- messages

acknowledged_undoable : (s : SeatOf) (b : Bool) → IsUndoable s → IsUndoable (ack_created s b).0
acknowledged_undoable s false h = h
acknowledged_undoable s true h = opened_so s false s.asked true h

known_undoable : (b : Bool) (s : SeatOf) (i : IdOf) (t : Said) → IsUndoable s → IsUndoable (refuse_known b s i t).0
known_undoable false s i t h = h
known_undoable true s i t h = refusal_undoable s i t h

answered_undoable : (s : SeatOf) → IsUndoable s → IsUndoable (answered s)
answered_undoable s h = opened_so s s.created s.asked false h

unopened_undoable : (s : SeatOf) (r : UnopenedReason) → IsUndoable s → IsUndoable (unopen_seat s r).0
unopened_undoable s unopened.NotParticipant h = answered_undoable s h
unopened_undoable s (unopened.UnknownVersion head) h = answered_undoable s h
unopened_undoable s (unopened.WrongHash host) h = answered_undoable s h
unopened_undoable s unopened.TooLarge h = opened_so s s.created s.asked true h

told_undoable : (user : Key) (x : Message) (s : SeatOf) → IsFit s x → IsUndoable s → IsUndoable (told_by user s x).0
told_undoable user (message.Opened name version) s f h = answered_undoable s h
told_undoable user (message.Snapshot x) s f h = snapshot_undoable s x f.0 f.1 h
told_undoable user (message.Unopened name r) s f h = unopened_undoable s r h
told_undoable user (message.Ack name client number place to) s f h = acknowledged_undoable s s.created h
told_undoable user (message.Refused name client number v) s f h = known_undoable (nat_le client max_count && nat_le number max_count) s (record { author = user; client = client; number = number }) (verdict_said v) h
told_undoable user (message.Queued name client number) s f h = h
told_undoable user (message.Update name d) s f h = update_undoable s d f h
told_undoable user (message.Closed name r) s f h = answered_undoable _ (drop_undoable s h)
told_undoable user (message.Hello u) s f h = h
told_undoable user (message.OpenWavelet name at) s f h = h
told_undoable user (message.Submit name client number at ops) s f h = h
told_undoable user (message.CloseWavelet name) s f h = h
told_undoable user (message.Welcome u) s f h = h
told_undoable user (message.Bad r) s f h = h
told_undoable user (message.Peer d) s f h = h
told_undoable user (message.Have name at) s f h = h
told_undoable user (message.Relay name s') s f h = h
told_undoable user (message.Applied name d) s f h = h
told_undoable user (message.Relayed name i v) s f h = h
told_undoable user (message.Dropped name) s f h = h

parted_all : (b : Bool) (i : ℕ) (r : Acted) → AreUndoable r.0 → AreUndoable (parted_acts b i r).0
parted_all false i r h = h
parted_all true i r h = h

bad_all : (m : MachineOf) (o : Option BadReason) → AreUndoable m → AreUndoable (bad_as m o).0
bad_all m None h = h
bad_all m (Some r) h = found_all (λ s. (answered s, says (bad_said r))) (says (bad_said r)) IsUndoable (λ s q k. answered_undoable s k) m m.current h h

taken_all : (m : MachineOf) (x : Message) (o : Option Key) → All (λ s. IsFit s x) m.seats → AreUndoable m → AreUndoable (taken_of m x o).0
taken_all m x None f h = bad_all m (bad_in x) h
taken_all m x (Some name) f h = by (place_of name m.seats)
  where
    by : (o : Option ℕ) → AreUndoable (taken_at m x o).0
    by None = h
    by (Some i) = parted_all (is_close x) i (on_place i (λ s. told_by m.user s x) quiet m) (place_all (λ s. told_by m.user s x) quiet (λ s. IsFit s x) (told_undoable m.user x) m i f h)

-- ---- the laws

pub begin_is_undoable : BeginIsUndoable
begin_is_undoable user client = All-nil IsUndoable

pub line_is_undoable : LineIsUndoable
line_is_undoable m c r h x = same_acted r _ x.2 (finished_all x.0.1.ends x.0 (done_all m c x.0 h x.1))

pub message_is_undoable : MessageIsUndoable
message_is_undoable m x f h = submitted_all (taken_by m x).0 (taken_all m x (name_in x) f h)

pub link_is_undoable : LinkIsUndoable
link_is_undoable m h = found_all reopen [] IsUndoable reopen_keeps m m.current h h
