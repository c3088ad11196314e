-- The law of chains: a wavelet's chain of undo stands at its follower's screen, and what takes edits back is valid in turn there.
--     IsFollowed s            this holds of a wavelet, and its follower is sound
--     NewIsFollowed, EditIsFollowed, UndoIsFollowed, DropIsFollowed, SubmitIsFollowed, RefusalIsFollowed, SnapshotIsFollowed,
--         UpdateIsFollowed
--                             each step keeps that
use Rattle.std.specs.Prelude.{◌≡◌, Bool, List, Some}
use Rattle.doc_items.specs.Maps.{Key}
use Rattle.wave_base.specs.Versions.{IdOf}
use Rattle.wavelet_op.specs.Acts.{Act}
use Rattle.wavelet_op.specs.Deltas.{DeltaOf}
use Rattle.wavelet_op.specs.Laws.{IsWhole}
use Rattle.wavelet_state.specs.Snapshots.{SnapshotOf}
use Rattle.follower_rules.specs.Followers.{ClientOf, screen, point_of}
use Rattle.follower_rules.specs.Laws.{IsPlace, IsSound, AreOwn}
use Rattle.undo_control.specs.Chains.{IsInTurn}
use Rattle.client_session.specs.Editing.{edit_seat, undo_seat, drop_seat, submit_seat}
use Rattle.client_session.specs.Seats.{SeatOf, new_seat}
use Rattle.client_session.specs.Taking.{snapshot_seat, update_seat, refuse_seat}
use Rattle.client_session.specs.declared.said.Said.{Said}

pub record IsFollowed (s : SeatOf) : Type 0 where
  pub sound : IsSound s.follower
  pub whole : IsWhole s.follower.here.state
  pub shows : screen s.follower ≡ Some s.chain.state
  pub in_turn : IsInTurn s.chain

abbrev pub NewIsFollowed : Type 0
NewIsFollowed = (name : Key) (k : ClientOf) (created : Bool) → IsFollowed (new_seat name k created)

abbrev pub EditIsFollowed : Type 0
EditIsFollowed = (s : SeatOf) (acts : List Act) → IsFollowed s → IsFollowed (edit_seat s acts).0

abbrev pub UndoIsFollowed : Type 0
UndoIsFollowed = (s : SeatOf) → IsFollowed s → IsFollowed (undo_seat s).0

abbrev pub DropIsFollowed : Type 0
DropIsFollowed = (s : SeatOf) → IsFollowed s → IsFollowed (drop_seat s)

abbrev pub SubmitIsFollowed : Type 0
SubmitIsFollowed = (s : SeatOf) → IsFollowed s → IsFollowed (submit_seat s).0

abbrev pub RefusalIsFollowed : Type 0
RefusalIsFollowed = (s : SeatOf) (i : IdOf) (t : Said) → IsFollowed s → IsFollowed (refuse_seat s i t).0

abbrev pub SnapshotIsFollowed : Type 0
SnapshotIsFollowed = (s : SeatOf) (x : SnapshotOf) → IsPlace (point_of x) → IsWhole x.state → IsFollowed s
    → IsFollowed (snapshot_seat s x).0

-- a delta that has the flight's id has its acts: another one isn't taken
abbrev pub UpdateIsFollowed : Type 0
UpdateIsFollowed = (s : SeatOf) (d : DeltaOf) → AreOwn s.follower d → IsFollowed s → IsFollowed (update_seat s d).0
