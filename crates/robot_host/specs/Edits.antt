-- The edits that robots answered.
--     calls_in name calls        the calls for a wavelet
--     WasAnswered b n name xs    the calls for a wavelet that came after the first ones were these, with these answers
--     HasAnswered P robots h r s m     of the first m deltas of the history the robot was shown exactly its view since it was added, where
--                                it tells its calls, and P is so of each delta that it answered by a submission, and of this
--     AreAnswered P g h          this holds of each robot that is there, for the deltas that it went through; and no edit is kept
--     HaveAnsweredAll P g h      this holds of each robot that is there, for all deltas of the history
use Rattle.std.specs.Prelude.{◌≡◌, ℕ, true, List, [], ◌++◌, length, map, filter, slice_get, Some, IfSome}
use Rattle.std.specs.List.{AllByRecursion}
use Rattle.doc_items.specs.Maps.{Key, same_text}
use Rattle.wavelet_op.specs.Deltas.{DeltaOf}
use Rattle.wavelet_op.specs.declared.delta.Submission.{Submission}
use Rattle.delta_history.specs.Histories.{HistoryOf}
use Rattle.robot_host.specs.Calls.{Call}
use Rattle.robot_host.specs.Hosts.{HostOf, kept}
use Rattle.robot_host.specs.Reactions.{Answered, edit_of, call_of}
use Rattle.robot_host.specs.Robots.{RobotOf, addresses}
use Rattle.robot_host.specs.Views.{view}

abbrev pub calls_in : Key → List Call → List Call
calls_in name calls = filter (λ c. same_text c.name name) calls

pub record WasAnswered (before now : List Call) (name : Key) (xs : List Answered) : Type 0 where
  pub since : List Call
  pub whole : before ++ since ≡ now
  pub given : calls_in name since ≡ map (call_of name) xs

module _ (P : DeltaOf → Submission → Type 0) where
  pub record HasAnswered (robots : List Key) (h : HistoryOf) (r : ℕ) (s : RobotOf) (m : ℕ) : Type 0 where
    pub answered : List Answered
    pub seen : map (λ x. x.seen) answered ≡ view robots s.address h m
    pub calls : IfSome s.before (λ before. IfSome s.calls (λ now. WasAnswered before now h.name answered))
    pub edits : AllByRecursion (λ x. AllByRecursion (λ e. P x.seen.delta e.submission) (edit_of r s.address x.seen x.answer)) answered

  pub record AreAnswered (g : HostOf) (h : HistoryOf) : Type 0 where
    pub each : (r : ℕ) (s : RobotOf) → slice_get g.robots r ≡ Some s → s.here ≡ true
        → HasAnswered (addresses g.robots) h r s (g.number h.name r)
    pub none_kept : kept g h.name ≡ []

  abbrev pub HaveAnsweredAll : HostOf → HistoryOf → Type 0
  HaveAnsweredAll g h = (r : ℕ) (s : RobotOf) → slice_get g.robots r ≡ Some s → s.here ≡ true
      → HasAnswered (addresses g.robots) h r s (length h.deltas)
