-- The verdict on a submission, in two steps: what is decided before it becomes a delta, and what its delta decides.
--     judged h s t          the verdict, and the delta by which the history grows
--     IsBase h s k          the submission's id is new and its author may write, and it was made after the first k deltas: what is
--                           left to test is its operations
--     has_room h os         the bounds of versions and of items hold with the operations
--     refusal at p as u     the verdict where no delta can follow: that the acts aren't valid at the base, or else that there is no
--                           room
--     IsNear h s t k d      the delta d is what the submission becomes: that is the verdict, unless the delta can't be next
--     IsDecided h s t r     a verdict that is given at once is the one on the submission; a delta is the one that it becomes
--     LooksAtOps j          the verdict is one that comes only after the operations were looked at: that they aren't valid, that there
--                           is no room, or that they are accepted
--     IsRefusal h s k v     this verdict is the refusal at the base after the first k deltas
--     IsFullFor h s t v     where it is `Full`, the operations are valid at their base, and the delta that they become breaks a bound
--     IsEarlyTold r         a verdict that is given here doesn't need the operations
--     IsFullTold h s t r    where the verdict that is given at once is `Full`, `IsFullFor` holds of it
use Rattle.std.specs.Prelude.{◌≡◌, ◌≤◌, ◌<◌, ◌+◌, ℕ, Bool, true, false, ◌&&◌, nat_le, min, List, length, take, drop, Option, Some, None, IsSome}
use Rattle.doc_items.specs.Limits.{max_count}
use Rattle.wave_base.specs.Versions.{VersionAt}
use Rattle.wavelet_op.specs.Acts.{Act, meanings, inserted}
use Rattle.wavelet_op.specs.Deltas.{DeltaOf, is_count}
use Rattle.wavelet_op.specs.States.{State, run, first_invalid}
use Rattle.wavelet_op.specs.declared.op.WaveletOp.{WaveletOp}
use Rattle.wavelet_op.specs.declared.delta.Submission.{Submission}
use Rattle.wavelet_op.specs.declared.role.Role.TheVariants as role
use Rattle.wavelet_op.specs.declared.verdict.Verdict.{Verdict}
use Rattle.wavelet_op.specs.declared.verdict.Verdict.TheVariants.{Ack, NotParticipant, ReadOnly, UnknownVersion, WrongHash, Invalid, Full}
use Rattle.delta_history.specs.Histories.{HistoryOf, head_of}
use Rattle.wavelet_state.specs.Snapshots.{max_inserted}
use Rattle.delta_history.specs.Laws.{IsFull}
use Rattle.delta_history.specs.Legal.{has_id, standing, may_write, IsLegal}
use Rattle.delta_history.specs.Points.{Point, start, replay}
use Rattle.delta_history.specs.Verdicts.{kept, Judged, judge, judge_ops}
use Rattle.state_cache.specs.States.{state_after}
use Rattle.wavelet_container.specs.Passing.{Passes}
use Rattle.wavelet_container.specs.declared.decision.Decision.{Decision}
use Rattle.wavelet_container.specs.declared.decision.Decision.TheVariants.{Told, Near}
use Rattle.wavelet_container.specs.declared.early.Tested.{Tested}
use Rattle.wavelet_container.specs.declared.early.Tested.TheVariants as tested

abbrev pub judged : HistoryOf → Submission → ℕ → Judged
judged h s t = judge h.name h.deltas s t

abbrev pub LooksAtOps : Judged → Type 0
LooksAtOps (v, Some d) = Unit {0}
LooksAtOps (Invalid index, None) = Unit {0}
LooksAtOps (Full head, None) = Unit {0}
LooksAtOps (Ack at to, None) = ⊥
LooksAtOps (NotParticipant, None) = ⊥
LooksAtOps (ReadOnly, None) = ⊥
LooksAtOps (UnknownVersion head, None) = ⊥
LooksAtOps (WrongHash host, None) = ⊥

pub record IsBase (h : HistoryOf) (s : Submission) (k : ℕ) : Type 0 where
  pub inside : k ≤ length h.deltas
  pub base : Point
  pub leads : replay (start h.name) (take k h.deltas) ≡ Some base
  pub made : base.at ≡ s.at
  pub new : has_id s.id h.deltas ≡ false
  pub author : may_write (standing h.deltas (head_of h) s.id.author (meanings s.ops)) ≡ true
  pub left : (t : ℕ) → judged h s t ≡ judge_ops s t (head_of h) base (drop k h.deltas) (run base.state (meanings s.ops))

-- the first tests but those of the version are passed
pub record MayWrite (h : HistoryOf) (s : Submission) : Type 0 where
  pub legal : IsLegal h.name h.deltas
  pub new : kept s.id (start h.name) h.deltas ≡ None
  pub author : standing h.deltas (head_of h) s.id.author (meanings s.ops) ≡ Some role.Full

abbrev pub IsTested : HistoryOf → Submission → Tested → Type 0
IsTested h s (tested.Told v) = (t : ℕ) → judged h s t ≡ (v, None)
IsTested h s (tested.Base k) = IsBase h s k

abbrev pub has_room : HistoryOf → List WaveletOp → Bool
has_room h ops = nat_le ((head_of h).at.version + length ops) max_count && nat_le ((head_of h).count + inserted (meanings ops)) max_inserted

abbrev pub refusal : VersionAt → State → List Act → Option State → Verdict
refusal head base acts None = Invalid (first_invalid base acts)
refusal head base acts (Some after) = Full head

-- at the base after the first k deltas
abbrev pub IsRefusal : HistoryOf → Submission → ℕ → Verdict → Type 0
IsRefusal h s k v = (base : Point) → replay (start h.name) (take k h.deltas) ≡ Some base → v
    ≡ refusal (head_of h).at base.state (meanings s.ops) (run base.state (meanings s.ops))

-- what is found at the state after the first k deltas: None where the acts are valid there
abbrev pub IsInvalidAt : HistoryOf → ℕ → List Act → Option ℕ → Type 0
IsInvalidAt h k acts None = (s : State) → state_after h.deltas k ≡ Some s → IsSome (run s acts)
IsInvalidAt h k acts (Some i) = (s : State) → state_after h.deltas k ≡ Some s → (i ≡ first_invalid s acts) × (run s acts ≡ None)

-- below the head the operations are valid at their base
abbrev pub IsValidBelow : HistoryOf → Submission → ℕ → Type 0
IsValidBelow h s k = k < length h.deltas → (u : State) → state_after h.deltas k ≡ Some u → IsSome (run u (meanings s.ops))

pub record IsSubmitted (h : HistoryOf) (s : Submission) (t : ℕ) (ops : List WaveletOp) (d : DeltaOf) : Type 0 where
  pub id : d.id ≡ s.id
  pub from : d.from ≡ (head_of h).at
  pub time : d.time ≡ min t max_count
  pub ops_are : d.ops ≡ ops

pub record IsNear (h : HistoryOf) (s : Submission) (t : ℕ) (k : ℕ) (d : DeltaOf) : Type 0 where
  pub made : IsBase h s k
  pub legal : IsLegal h.name h.deltas
  pub some_ops : is_count (length s.ops) ≡ true
  pub room : has_room h s.ops ≡ true
  pub valid : IsValidBelow h s k
  pub passed : Passes (meanings s.ops) (drop k h.deltas) d.ops
  pub submitted : IsSubmitted h s t d.ops d

abbrev pub IsDecided : HistoryOf → Submission → ℕ → Decision → Type 0
IsDecided h s t (Told v) = judged h s t ≡ (v, None)
IsDecided h s t (Near k d) = IsNear h s t k d

-- ---- where there is no room

abbrev pub IsFullFor : HistoryOf → Submission → ℕ → Verdict → Type 0
IsFullFor h s t v = (head : VersionAt) → v ≡ Full head → IsFull h.name h.deltas s t head

abbrev pub IsEarly : Verdict → Type 0
IsEarly (Ack at to) = Unit {0}
IsEarly NotParticipant = Unit {0}
IsEarly ReadOnly = Unit {0}
IsEarly (UnknownVersion head) = Unit {0}
IsEarly (WrongHash host) = Unit {0}
IsEarly (Invalid index) = ⊥
IsEarly (Full head) = ⊥

abbrev pub IsEarlyTold : Tested → Type 0
IsEarlyTold (tested.Told v) = IsEarly v
IsEarlyTold (tested.Base k) = Unit {0}

abbrev pub IsFullTold : HistoryOf → Submission → ℕ → Decision → Type 0
IsFullTold h s t (Told v) = IsFullFor h s t v
IsFullTold h s t (Near k d) = Unit {0}
