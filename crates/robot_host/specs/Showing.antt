-- How a robot is shown deltas.
--     asked name s x r        the robot after it answered
--     dropped s               the robot after it was dropped
--     after_answer s r        the robot after this answer: it is dropped only where it leaves
--     HasReacted h r i s t es es'      the robot r was shown the delta at a place, and its edit is after the others
--     AreTaken h n is as m left        of the places the first ones were taken in turn, with these answers; the robot then went through
--                                      m deltas
--     HasShown h r is left n s t m es es'      the robot was shown so the deltas at these places, but for those that are left
--     HasShownSome, HasShownAll     the same where some are left; where the robot stays, none are, and it went through all deltas
use Rattle.std.specs.Prelude.{◌≡◌, ℕ, suc, true, false, cond, List, [], ◌∷◌, ◌++◌, length, map}
use Rattle.doc_items.specs.Maps.{Key}
use Rattle.wavelet_op.specs.Deltas.{DeltaOf}
use Rattle.wavelet_op.specs.States.{State}
use Rattle.delta_history.specs.Histories.{HistoryOf}
use Rattle.robot_host.specs.declared.edit.RobotEdit.{RobotEdit}
use Rattle.robot_host.specs.declared.reaction.Reaction.{Reaction}
use Rattle.robot_host.specs.Calls.{with_call}
use Rattle.robot_host.specs.Places.{IsSeenAt}
use Rattle.robot_host.specs.Reactions.{Answered, stays, HasStayed, edit_of, edits_of, call_of, with_calls}
use Rattle.robot_host.specs.Robots.{RobotOf}

abbrev pub asked : Key → RobotOf → DeltaOf → State → Reaction → RobotOf
asked name s d t r = record { address = s.address; here = s.here; before = s.before; calls = with_call s.calls name d t r }

abbrev pub dropped : RobotOf → RobotOf
dropped s = record { address = s.address; here = false; before = s.before; calls = s.calls }

abbrev pub after_answer : RobotOf → Reaction → RobotOf
after_answer s r = cond (stays r) s (dropped s)

pub record HasReacted (h : HistoryOf) (r i : ℕ) (s t : RobotOf) (es es' : List RobotEdit) : Type 0 where
  pub shown : Answered
  pub seen : IsSeenAt h i shown.seen
  pub robot : t ≡ after_answer (asked h.name s shown.seen.delta shown.seen.after.state shown.answer) shown.answer
  pub edits : es' ≡ es ++ edit_of r s.address shown.seen shown.answer

abbrev pub AreTaken : HistoryOf → ℕ → List ℕ → List Answered → ℕ → List ℕ → Type 0
AreTaken h n is [] m left = (m ≡ n) × (left ≡ is)
AreTaken h n [] (x ∷ xs) m left = ⊥
AreTaken h n (i ∷ is) (x ∷ xs) m left = IsSeenAt h i x.seen × AreTaken h (suc i) is xs m left

pub record HasShown (h : HistoryOf) (r : ℕ) (is left : List ℕ) (n : ℕ) (s t : RobotOf) (m : ℕ) (es es' : List RobotEdit) : Type 0 where
  pub shown : List Answered
  pub taken : AreTaken h n is shown m left
  pub robot : t ≡ record { address = s.address; here = t.here; before = s.before; calls = with_calls s.calls (map (call_of h.name) shown) }
  pub stayed : HasStayed shown t.here
  pub edits : es' ≡ es ++ edits_of r s.address shown

pub record HasShownSome (h : HistoryOf) (r : ℕ) (is : List ℕ) (n : ℕ) (s t : RobotOf) (m : ℕ) (es es' : List RobotEdit) : Type 0 where
  pub left : List ℕ
  pub shown : HasShown h r is left n s t m es es'

pub record HasShownAll (h : HistoryOf) (r : ℕ) (is : List ℕ) (n : ℕ) (s t : RobotOf) (m : ℕ) (es es' : List RobotEdit) : Type 0 where
  pub left : List ℕ
  pub reached : ℕ
  pub shown : HasShown h r is left n s t reached es es'
  pub through : t.here ≡ true → (left ≡ []) × (m ≡ length h.deltas)
  pub gone : t.here ≡ false → m ≡ reached
