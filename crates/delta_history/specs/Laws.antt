-- The laws of histories.
--     PointIs, PointThere     a version names one point: the one that the history leads through there
--     PassIs                  two versions name one pass
--     GoesOn                  a legal history with a delta that may come next is legal
--     Begins                  each beginning of a legal history is legal, and its points are points of the whole
--     IsKept name ds i k      a delta of the history has the id, and it stands there
--     KeptIs, KeptThere       what is kept for an id; it is there exactly where a delta has the id
--     IsSpelled as            acts have operations in normal form, of which they are the acts
--     EndsSpelled name ds s   the acts that the operations of a submission become on their way to the head are spelled
--     IsAdded, IsJudged       what a verdict says: an acknowledgement is that of a kept delta, or comes with the delta by which
--                             the history grows, which may come next
--     JudgedIs                each verdict on a legal history says so
--     IsHead, IsStanding      where the head is, and what the author of a submission may do there
--     IsBroken p acts d       a bound is broken: of versions, of items inserted, of bytes
--     IsInvalid, IsFull       the operations aren't valid where they were made; they are, and the delta that they become at the head
--                             breaks a bound
--     IsCaused name ds s t v  a verdict that adds nothing has its cause
--     CauseIs                 each such verdict on a legal history has its cause
use Rattle.std.specs.Prelude.{◌≡◌, ◌≢◌, ◌⊎◌, ◌+◌, ◌<◌, ℕ, true, false, List, [], ◌∷◌, ◌++◌, length, Option, Some, None}
use Rattle.doc_items.specs.Limits.{max_count}
use Rattle.wave_base.specs.Versions.{IdOf, VersionAt}
use Rattle.wavelet_op.specs.Acts.{Act, meanings, inserted, AreNormal}
use Rattle.wavelet_op.specs.Deltas.{DeltaOf, is_count}
use Rattle.wavelet_op.specs.Grids.{pass}
use Rattle.wavelet_op.specs.States.{State, run, first_invalid}
use Rattle.wavelet_op.specs.declared.delta.Submission.{Submission}
use Rattle.wavelet_op.specs.declared.role.Role.{Role}
use Rattle.wavelet_op.specs.declared.role.Role.TheVariants as role
use Rattle.wavelet_op.specs.declared.verdict.Verdict.{Verdict}
use Rattle.wavelet_op.specs.declared.verdict.Verdict.TheVariants.{Ack, NotParticipant, ReadOnly, UnknownVersion, WrongHash, Invalid, Full}
use Rattle.wavelet_codec.specs.Spelling.{delta_bytes}
use Rattle.wavelet_state.specs.Snapshots.{max_inserted}
use Rattle.delta_history.specs.declared.kept.Kept.{Kept}
use Rattle.delta_history.specs.Points.{Point, start, acts_of, replay, cut, point_at, IsAt}
use Rattle.delta_history.specs.Passing.{all_acts, pass_between, IsPassed}
use Rattle.delta_history.specs.Legal.{max_delta, has_id, standing, IsNext, IsLegal}
use Rattle.delta_history.specs.Verdicts.{kept, ops_of, accepted, Judged, judge}

-- ---- points and passes

abbrev pub PointIs : Type 0
PointIs = (name : List ℕ) (ds : List DeltaOf) (p : Point) → IsLegal name ds → IsAt name ds p → point_at name ds p.at.version ≡ Some p

abbrev pub PointThere : Type 0
PointThere = (name : List ℕ) (ds : List DeltaOf) (v : ℕ) (p : Point) → point_at name ds v ≡ Some p → IsAt name ds p × (p.at.version ≡ v)

abbrev pub PassIs : Type 0
PassIs = (name : List ℕ) (ds : List DeltaOf) (b e : VersionAt) (acts acts' : List Act) → IsLegal name ds → IsPassed name ds b e acts acts'
    → pass_between name ds b.version e.version acts ≡ Some acts'

-- ---- longer and shorter histories

abbrev pub GoesOn : Type 0
GoesOn = (name : List ℕ) (ds : List DeltaOf) (d : DeltaOf) → IsLegal name ds → IsNext name ds d → IsLegal name (ds ++ d ∷ [])

pub record IsBeginning (name : List ℕ) (before whole : List DeltaOf) : Type 0 where
  pub legal : IsLegal name before
  pub points : (v : ℕ) (p : Point) → point_at name before v ≡ Some p → point_at name whole v ≡ Some p

abbrev pub Begins : Type 0
Begins = (name : List ℕ) (before behind : List DeltaOf) → IsLegal name (before ++ behind) → IsBeginning name before (before ++ behind)

-- ---- what is kept

pub record IsKept (name : List ℕ) (ds : List DeltaOf) (i : IdOf) (k : Kept) : Type 0 where
  pub before : List DeltaOf
  pub delta : DeltaOf
  pub behind : List DeltaOf
  pub after : Point
  pub whole : before ++ delta ∷ behind ≡ ds
  pub is_id : delta.id ≡ i
  pub is_at : delta.from.version ≡ k.at
  pub leads : replay (start name) (before ++ delta ∷ []) ≡ Some after
  pub is_to : after.at ≡ k.to

abbrev pub KeptIs : Type 0
KeptIs = (name : List ℕ) (ds : List DeltaOf) (i : IdOf) (k : Kept) → IsLegal name ds → kept i (start name) ds ≡ Some k → IsKept name ds i k

abbrev pub KeptThere : Type 0
KeptThere = (name : List ℕ) (ds : List DeltaOf) (i : IdOf) → IsLegal name ds → kept i (start name) ds ≡ None → has_id i ds ≡ false

-- ---- verdicts

pub record IsAdded (name : List ℕ) (ds : List DeltaOf) (s : Submission) (v : Verdict) (d : DeltaOf) : Type 0 where
  pub next : IsNext name ds d
  pub same : d.id ≡ s.id
  pub passed : IsPassed name ds s.at d.from (meanings s.ops) (acts_of d)
  pub answer : v ≡ Ack d.from.version next.after.at

abbrev pub IsJudged : List ℕ → List DeltaOf → Submission → Judged → Type 0
IsJudged name ds s j = ((j.1 ≡ None) × ((at : ℕ) (to : VersionAt) → j.0 ≡ Ack at to → IsKept name ds s.id (record { at = at; to = to }))) ⊎
    ((d : DeltaOf) × (j.1 ≡ Some d) × IsAdded name ds s j.0 d)

pub record IsSpelled (acts : List Act) : Type 0 where
  pub same : meanings (ops_of acts) ≡ acts
  pub normal : AreNormal (ops_of acts)

-- what the submission's acts become on their way to the head has operations in normal form
abbrev pub EndsSpelled : List ℕ → List DeltaOf → Submission → Type 0
EndsSpelled name ds s = (base : Point) (since : List DeltaOf) (acts : List Act) → cut (start name) s.at.version ds ≡ Some (base, since)
    → pass (meanings s.ops) (all_acts since) ≡ Some acts → IsSpelled acts

abbrev pub JudgedIs : Type 0
JudgedIs = (name : List ℕ) (ds : List DeltaOf) (s : Submission) (t : ℕ) → IsLegal name ds → is_count (length s.ops) ≡ true
    → EndsSpelled name ds s → IsJudged name ds s (judge name ds s t)

-- ---- causes of verdicts that add nothing

pub record IsHead (name : List ℕ) (ds : List DeltaOf) (head : VersionAt) : Type 0 where
  pub here : Point
  pub leads : replay (start name) ds ≡ Some here
  pub at : here.at ≡ head

pub record IsStanding (name : List ℕ) (ds : List DeltaOf) (s : Submission) (r : Option Role) : Type 0 where
  pub here : Point
  pub leads : replay (start name) ds ≡ Some here
  pub is : standing ds here s.id.author (meanings s.ops) ≡ r

pub record IsOtherHash (name : List ℕ) (ds : List DeltaOf) (s : Submission) (host : List ℕ) : Type 0 where
  pub base : Point
  pub is_base : point_at name ds s.at.version ≡ Some base
  pub is : base.at.hash ≡ host
  pub other : host ≢ s.at.hash

pub record IsInvalid (name : List ℕ) (ds : List DeltaOf) (s : Submission) (index : ℕ) : Type 0 where
  pub base : Point
  pub is_base : point_at name ds s.at.version ≡ Some base
  pub at_base : base.at ≡ s.at
  pub not_valid : run base.state (meanings s.ops) ≡ None
  pub is : index ≡ first_invalid base.state (meanings s.ops)

abbrev pub IsBroken : Point → List Act → DeltaOf → Type 0
IsBroken p acts d = (max_count < p.at.version + length acts) ⊎ ((max_inserted < p.count + inserted acts) ⊎
    (max_delta < length (delta_bytes d)))

pub record IsFull (name : List ℕ) (ds : List DeltaOf) (s : Submission) (t : ℕ) (head : VersionAt) : Type 0 where
  pub here : Point
  pub leads : replay (start name) ds ≡ Some here
  pub at : here.at ≡ head
  pub base : Point
  pub is_base : point_at name ds s.at.version ≡ Some base
  pub at_base : base.at ≡ s.at
  pub end : State
  pub valid : run base.state (meanings s.ops) ≡ Some end
  pub acts : List Act
  pub passed : pass_between name ds s.at.version head.version (meanings s.ops) ≡ Some acts
  pub broken : IsBroken here (meanings s.ops) (accepted here s t acts)

abbrev pub IsCaused : List ℕ → List DeltaOf → Submission → ℕ → Verdict → Type 0
IsCaused name ds s t (Ack at to) = IsKept name ds s.id (record { at = at; to = to })
IsCaused name ds s t NotParticipant = IsStanding name ds s None
IsCaused name ds s t ReadOnly = IsStanding name ds s (Some role.ReadOnly)
IsCaused name ds s t (UnknownVersion head) = IsHead name ds head × (point_at name ds s.at.version ≡ None)
IsCaused name ds s t (WrongHash host) = IsOtherHash name ds s host
IsCaused name ds s t (Invalid index) = IsInvalid name ds s index
IsCaused name ds s t (Full head) = IsFull name ds s t head

abbrev pub CauseIs : Type 0
CauseIs = (name : List ℕ) (ds : List DeltaOf) (s : Submission) (t : ℕ) (v : Verdict) → IsLegal name ds → EndsSpelled name ds s
    → judge name ds s t ≡ (v, None) → IsCaused name ds s t v
