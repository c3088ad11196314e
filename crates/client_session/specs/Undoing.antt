-- The law of undo, of a client's machine.
--     IsUndoable s              a wavelet's chain follows its screen, has at most a hundred entries, and none that inserts more
--     AreUndoable m             each wavelet of a machine is undoable
--     IsFit s x                 a snapshot is of a whole state; a delta that has the flight's id has its acts
--     BeginIsUndoable, LineIsUndoable, MessageIsUndoable, LinkIsUndoable      each step of a client keeps that
--     ChangePasses              another's delta by which a follower advances passes what is pending and then the chain's entries, as the
--                               chain's own definition says: no new chain begins
--     IsUndone s es r           what comes of an undo where these are the entries: there is nothing to undo; or the first entry is
--                               edited into the follower, or refused by 22 or 23, and all is as it was
--     UndoIsSaid                an undo at a wavelet whose chain follows its screen comes to this
--     IsDoneLine m c n          a line of this command, of which nothing is said
--     AreEdits m es n, AreUndos m i n      such lines: edits of the current wavelet; so many undos
--     screen_here m             what the screen of the current wavelet shows
--     UndosLeadBack             at most a hundred edits, none of them refused, and then as many undos, none of them refused, lead to the
--                               screen before them
use Rattle.std.specs.Prelude.{◌≡◌, ◌⊎◌, ℕ, zero, suc, ◌≤◌, false, List, [], ◌∷◌, length, Option, Some}
use Rattle.std.specs.List.{All}
use Rattle.std.specs.Option.{option_map}
use Rattle.doc_items.specs.Maps.{Key}
use Rattle.wavelet_op.specs.Acts.{Act}
use Rattle.wavelet_op.specs.Deltas.{DeltaOf}
use Rattle.wavelet_op.specs.Laws.{IsWhole}
use Rattle.wavelet_op.specs.States.{State}
use Rattle.message_json.specs.declared.message.Message.{Message}
use Rattle.message_json.specs.declared.message.Message.TheVariants as message
use Rattle.delta_history.specs.Points.{acts_of}
use Rattle.follower_rules.specs.Followers.{FollowerOf, pending, point_of}
use Rattle.follower_rules.specs.Laws.{IsPlace, AreOwn}
use Rattle.follower_rules.specs.Receiving.{rebase, receive}
use Rattle.follower_rules.specs.declared.received.Received.TheVariants.{Advanced}
use Rattle.undo_control.specs.Chains.{ChainOf, max_entries, changed}
use Rattle.undo_control.specs.Laws.{IsLight, max_back}
use Rattle.client_commands.specs.declared.command.Command.{Command}
use Rattle.client_commands.specs.declared.command.Command.TheVariants as command
use Rattle.client_commands.specs.declared.command.Edit.{Edit}
use Rattle.client_session.specs.Editing.{undo_seat}
use Rattle.client_session.specs.Laws.{IsFollowed}
use Rattle.client_session.specs.Machine.{MachineOf, Acted, new_machine, seat_at, IsCommanded, received, greeted}
use Rattle.client_session.specs.Seats.{SeatOf, shown}
use Rattle.client_session.specs.Taking.{flies, update_seat}
use Rattle.client_session.specs.declared.acts.Acts.{Acts}
use Rattle.client_session.specs.declared.said.Said.{Said}
use Rattle.client_session.specs.declared.said.Said.TheVariants as said

pub record IsUndoable (s : SeatOf) : Type 0 where
  pub followed : IsFollowed s
  pub few : length s.chain.entries ≤ max_entries
  pub light : IsLight max_back s.chain

abbrev pub AreUndoable : MachineOf → Type 0
AreUndoable m = All IsUndoable m.seats

-- ---- each step

abbrev pub IsFit : SeatOf → Message → Type 0
IsFit s (message.Snapshot x) = IsPlace (point_of x) × IsWhole x.state
IsFit s (message.Update name d) = AreOwn s.follower d
IsFit s x = Unit {0}

abbrev pub BeginIsUndoable : Type 0
BeginIsUndoable = (user : Key) (client : ℕ) → AreUndoable (new_machine user client)

abbrev pub LineIsUndoable : Type 0
LineIsUndoable = (m : MachineOf) (c : Option Command) (r : Acted) → AreUndoable m → IsCommanded m c r → AreUndoable r.0

abbrev pub MessageIsUndoable : Type 0
MessageIsUndoable = (m : MachineOf) (x : Message) → All (λ s. IsFit s x) m.seats → AreUndoable m → AreUndoable (received m x).0

abbrev pub LinkIsUndoable : Type 0
LinkIsUndoable = (m : MachineOf) → AreUndoable m → AreUndoable (greeted m).0

-- ---- a change made by others

-- what is left of the delta, and the chain past it
pub record IsPassed (s : SeatOf) (d : DeltaOf) (g : FollowerOf) : Type 0 where
  pub left : List Act
  pub rebased : rebase (pending s.follower) (acts_of d) ≡ Some (pending g, left)
  pub chain : ChainOf
  pub passed : changed s.chain left ≡ Some chain
  pub kept : (update_seat s d).0.chain ≡ chain

abbrev pub ChangePasses : Type 0
ChangePasses = (s : SeatOf) (d : DeltaOf) (g : FollowerOf) → IsUndoable s → flies s.follower d.id ≡ false → receive s.follower d
    ≡ (Advanced, g) → IsPassed s d g

-- ---- an undo

abbrev pub IsUndone : SeatOf → List (List Act) → SeatOf × Said → Type 0
IsUndone s [] r = r ≡ (s, said.NothingToUndo)
IsUndone s (entry ∷ rest) r = (r.1 ≡ said.Nothing) ⊎ ((r ≡ (s, said.Refused 22)) ⊎ (r ≡ (s, said.Refused 23)))

abbrev pub UndoIsSaid : Type 0
UndoIsSaid = (s : SeatOf) → IsFollowed s → IsUndone s s.chain.entries (undo_seat s)

-- ---- edits, and as many undos

abbrev pub IsDoneLine : MachineOf → Command → MachineOf → Type 0
IsDoneLine m c n = (a : Acts) × IsCommanded m (Some c) (n, a) × (a.said ≡ said.Nothing)

abbrev pub AreEdits : MachineOf → List Edit → MachineOf → Type 0
AreEdits m [] n = n ≡ m
AreEdits m (e ∷ es) n = (k : MachineOf) × IsDoneLine m (command.Edit e) k × AreEdits k es n

abbrev pub AreUndos : MachineOf → ℕ → MachineOf → Type 0
AreUndos m zero n = n ≡ m
AreUndos m (suc i) n = (k : MachineOf) × AreUndos m i k × IsDoneLine k command.Undo n

abbrev pub screen_here : MachineOf → Option State
screen_here m = option_map (λ (s : SeatOf). shown s.follower) (seat_at m.seats m.current)

abbrev pub UndosLeadBack : Type 0
UndosLeadBack = (m n k : MachineOf) (es : List Edit) → AreUndoable m → length es ≤ max_entries → AreEdits m es n → AreUndos n (length es) k
    → screen_here k ≡ screen_here m
