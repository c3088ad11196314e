-- What a turn of the robots does.
--     is_there robots r          the robot of this number is there
--     number_of ns r             the number of deltas that a robot went through; 0 at first
--     StayedFrom b as here       a robot that is there answered so; one that isn't is shown nothing
--     IsTurnOf robots h r s t n m es      the robot r was shown what of its view comes after the first n deltas, up to the first m; these
--                                are its edits
--     IsOneTurn robots h r ss ts ns ms es es'    the same among all robots and their numbers; its edits are after the others
--     IsThrough h r ss ns        the robot, if it is there, went through all deltas
--     of_robot r es              the edits of a robot
--     AreTurns robots h ss ts ns ms es       each of the robots had such a turn
--     AreTurnsBelow k ..         those with numbers from k on are as they were
--     HaveTurnedBelow, HaveTurned     those below k, or all, had their turns, with their edits after the others
--     is_of_there robots e       the edit is of a robot that is there
--     HaveAnswered .. es given   each robot had its part; what is given are the edits kept before and then those answered, of robots that
--                                are there
--     AreThrough h ss ns         each robot that is there went through all deltas
--     IsShown robots h s n       of the first n deltas the robot was shown exactly its view since it was added, where it tells its calls
--     AreShown robots h ss ns    each robot that is there was shown so what it went through
use Rattle.std.specs.Prelude.{◌≡◌, ◌<◌, ◌≤◌, ℕ, ◌==◌, Bool, true, false, List, [], ◌++◌, length, map, filter, slice_get, slice_set, Some, IfSome, unwrap_or}
use Rattle.std.specs.Option.{option_map_or}
use Rattle.doc_items.specs.Maps.{Key}
use Rattle.delta_history.specs.Histories.{HistoryOf}
use Rattle.robot_host.specs.declared.edit.RobotEdit.{RobotEdit}
use Rattle.robot_host.specs.Calls.{Call, given_in}
use Rattle.robot_host.specs.Reactions.{Answered, HasStayed, edits_of, call_of, with_calls}
use Rattle.robot_host.specs.Robots.{RobotOf}
use Rattle.robot_host.specs.Views.{Seen, view, given_by}

abbrev pub is_there : List RobotOf → ℕ → Bool
is_there robots r = option_map_or (λ s. s.here) (slice_get robots r) false

abbrev pub number_of : List ℕ → ℕ → ℕ
number_of ns r = unwrap_or (slice_get ns r) 0

abbrev pub StayedFrom : Bool → List Answered → Bool → Type 0
StayedFrom true shown here = HasStayed shown here
StayedFrom false shown here = (shown ≡ []) × (here ≡ false)

pub record IsTurnOf (robots : List Key) (h : HistoryOf) (r : ℕ) (s t : RobotOf) (n m : ℕ) (es : List RobotEdit) : Type 0 where
  pub shown : List Answered
  pub view : view robots s.address h n ++ map (λ x. x.seen) shown ≡ view robots s.address h m
  pub within : n ≤ length h.deltas → m ≤ length h.deltas
  pub robot : t ≡ record { address = s.address; here = t.here; before = s.before; calls = with_calls s.calls (map (call_of h.name) shown) }
  pub stayed : StayedFrom s.here shown t.here
  pub edits : es ≡ edits_of r s.address shown

pub record IsOneTurn (robots : List Key) (h : HistoryOf) (r : ℕ) (ss ts : List RobotOf) (ns ms : List ℕ) (es es' : List RobotEdit) :
    Type 0 where
  pub before : RobotOf
  pub after : RobotOf
  pub number : ℕ
  pub added : List RobotEdit
  pub was : slice_get ss r ≡ Some before
  pub seats : ts ≡ slice_set ss r after
  pub numbers : ms ≡ slice_set ns r number
  pub turn : IsTurnOf robots h r before after (number_of ns r) number added
  pub edits : es' ≡ es ++ added

abbrev pub IsThrough : HistoryOf → ℕ → List RobotOf → List ℕ → Type 0
IsThrough h r ss ns = (s : RobotOf) → slice_get ss r ≡ Some s → s.here ≡ true → number_of ns r ≡ length h.deltas

abbrev pub of_robot : ℕ → List RobotEdit → List RobotEdit
of_robot r es = filter (λ e. e.robot == r) es

pub record AreTurns (robots : List Key) (h : HistoryOf) (ss ts : List RobotOf) (ns ms : List ℕ) (es : List RobotEdit) : Type 0 where
  pub length : length ts ≡ length ss
  pub turned : (r : ℕ) (s t : RobotOf) → slice_get ss r ≡ Some s → slice_get ts r ≡ Some t → IsTurnOf robots h r s t (number_of ns r)
      (number_of ms r) (of_robot r es)

pub record AreTurnsBelow (k : ℕ) (robots : List Key) (h : HistoryOf) (ss ts : List RobotOf) (ns ms : List ℕ) (es : List RobotEdit) :
    Type 0 where
  pub turns : AreTurns robots h ss ts ns ms es
  pub others : (r : ℕ) → k ≤ r → slice_get ts r ≡ slice_get ss r
  pub numbers : (r : ℕ) → k ≤ r → slice_get ms r ≡ slice_get ns r
  pub own : (r : ℕ) → k ≤ r → of_robot r es ≡ []
  pub through : (r : ℕ) → r < k → IsThrough h r ts ms

pub record HaveTurnedBelow (k : ℕ) (robots : List Key) (h : HistoryOf) (ss ts : List RobotOf) (ns ms : List ℕ) (es es' : List
    RobotEdit) : Type 0 where
  pub answered : List RobotEdit
  pub below : AreTurnsBelow k robots h ss ts ns ms answered
  pub edits : es' ≡ es ++ answered

pub record HaveTurned (robots : List Key) (h : HistoryOf) (ss ts : List RobotOf) (ns ms : List ℕ) (es es' : List RobotEdit) : Type 0 where
  pub answered : List RobotEdit
  pub turns : AreTurns robots h ss ts ns ms answered
  pub edits : es' ≡ es ++ answered

abbrev pub is_of_there : List RobotOf → RobotEdit → Bool
is_of_there robots e = is_there robots e.robot

pub record HaveAnswered (robots : List Key) (h : HistoryOf) (ss ts : List RobotOf) (ns ms : List ℕ) (es given : List RobotEdit) : Type
    0 where
  pub answered : List RobotEdit
  pub turns : AreTurns robots h ss ts ns ms answered
  pub edits : given ≡ filter (is_of_there ts) (es ++ answered)

abbrev pub AreThrough : HistoryOf → List RobotOf → List ℕ → Type 0
AreThrough h ss ns = (r : ℕ) → IsThrough h r ss ns

pub record WasShown (before now : List Call) (name : Key) (shown : List Seen) : Type 0 where
  pub since : List Call
  pub whole : before ++ since ≡ now
  pub given : given_in name since ≡ given_by shown

pub record IsShown (robots : List Key) (h : HistoryOf) (s : RobotOf) (n : ℕ) : Type 0 where
  pub within : n ≤ length h.deltas
  pub calls : IfSome s.before (λ before. IfSome s.calls (λ now. WasShown before now h.name (view robots s.address h n)))

abbrev pub AreShown : List Key → HistoryOf → List RobotOf → List ℕ → Type 0
AreShown robots h ss ns = (r : ℕ) (s : RobotOf) → slice_get ss r ≡ Some s → s.here ≡ true → IsShown robots h s (number_of ns r)
