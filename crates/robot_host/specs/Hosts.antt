-- The robots of a host, and what they do.
--     HostOf                     the robots by number; how many deltas of a wavelet each went through; the edits kept for a wavelet
--     host_by calls host         a host, by what robots tell of their calls
--     host_as robot host         the same, for other crates, whose clauses write `host_as ⟦<dyn Robot as Robot>⟧ host`
--     kept g name                the edits kept for a wavelet, of robots that are there
--     AreFresh robots            they were shown nothing since they were added
--     IsNew g                    no turn was taken yet
--     added a calls              a robot that is added
--     MayTurn g h                each robot that is there went through at most the deltas of a history, and was shown exactly its view of
--                                those that it went through
--     HasTurned g h g' all       what a turn over a history does, of which these are the edits
--     AreOthersKept g g' name    what it leaves of other wavelets
--     HaveSeenAll g h            each robot that is there, where it tells its calls, was shown its whole view of a history since it was
--                                added
--     IsSettled g h              each robot that is there went through all deltas of the history, and no edit is kept for it
--     IsWithout g r g'           a robot was dropped
--     AreFewer g g'              some robots were dropped, or none, and nothing else was done
use Rattle.std.specs.Prelude.{◌≡◌, ◌≢◌, ℕ, true, List, [], ◌++◌, length, map, filter, slice_get, slice_set, Option, Some}
use Rattle.std.specs.Cmp.Lexicographic.{slice_cmp}
use Rattle.std.specs.Option.{option_map_or}
use Rattle.std.specs.Ordering.{nat_cmp}
use Rattle.std.specs.BTreeMap as tree
use Rattle.std.specs.declared.alloc.Global.{Global}
use Rattle.std.specs.declared.dyn_box.DynBox.{DynBox}
use Rattle.doc_items.specs.Maps.{Key}
use Rattle.delta_history.specs.Histories.{HistoryOf}
use Rattle.robot_host.specs.declared.edit.RobotEdit.{RobotEdit}
use Rattle.robot_host.specs.declared.host.RobotHost.{RobotHost}
use Rattle.robot_host.specs.declared.progress.Progress.{Progress}
use Rattle.robot_host.specs.declared.robot.Robot as robot_of
use Rattle.robot_host.specs.Calls.{Call}
use Rattle.robot_host.specs.Robots.{RobotOf, robot_by, addresses}
use Rattle.robot_host.specs.Showing.{dropped}
use Rattle.robot_host.specs.Turns.{number_of, is_of_there, of_robot, IsTurnOf, IsShown}

pub record HostOf : Type 0 where
  pub robots : List RobotOf
  pub number : Key → ℕ → ℕ
  pub edits : Key → List RobotEdit

abbrev pub progress_in : tree.BTreeMap Key Progress → Key → Option Progress
progress_in m name = tree.get (slice_cmp nat_cmp) m name

abbrev pub number_in : Option Progress → ℕ → ℕ
number_in p r = option_map_or (λ q. number_of q.counts.items r) p 0

abbrev pub edits_in : Option Progress → List RobotEdit
edits_in p = option_map_or (λ q. q.edits.items) p []

abbrev pub host_by : {V : Type 0} → {T : V → Type 0} → (DynBox V Global T → Option (List Call)) → RobotHost V T → HostOf
host_by calls host = record {
  robots = map (robot_by calls) host.seats.items;
  number = λ name. number_in (progress_in host.wavelets
      name);
  edits = λ name. edits_in (progress_in host.wavelets name);
}

abbrev pub host_as : {V : Type 0} → {T : V → Type 0} → ((v : V) → robot_of.Ghosts (T v)) → RobotHost V T → HostOf
host_as robot host = host_by (λ b. (robot b.vtable).calls b.value) host

abbrev pub kept : HostOf → Key → List RobotEdit
kept g name = filter (is_of_there g.robots) (g.edits name)

abbrev pub AreFresh : List RobotOf → Type 0
AreFresh robots = (r : ℕ) (s : RobotOf) → slice_get robots r ≡ Some s → s.calls ≡ s.before

pub record IsNew (g : HostOf) : Type 0 where
  pub fresh : AreFresh g.robots
  pub numbers : (name : Key) (r : ℕ) → g.number name r ≡ 0
  pub edits : (name : Key) → g.edits name ≡ []

abbrev pub added : Key → Option (List Call) → RobotOf
added a calls = record { address = a; here = true; before = calls; calls = calls }

abbrev pub MayTurn : HostOf → HistoryOf → Type 0
MayTurn g h = (r : ℕ) (s : RobotOf) → slice_get g.robots r ≡ Some s → s.here ≡ true → IsShown (addresses g.robots) h s (g.number h.name r)

-- the robot r before and after a turn, with the edits that it answered
pub record HasTurnedAs (g g' : HostOf) (h : HistoryOf) (answered : List RobotEdit) : Type 0 where
  pub length : length g'.robots ≡ length g.robots
  pub turned : (r : ℕ) (s t : RobotOf) → slice_get g.robots r ≡ Some s → slice_get g'.robots r ≡ Some t → IsTurnOf (addresses g.robots)
      h r s t (g.number h.name r) (g'.number h.name r) (of_robot r answered)

pub record HasTurned (g : HostOf) (h : HistoryOf) (g' : HostOf) (all : List RobotEdit) : Type 0 where
  pub answered : List RobotEdit
  pub turns : HasTurnedAs g g' h answered
  pub edits : all ≡ filter (is_of_there g'.robots) (kept g h.name ++ answered)

pub record AreOthersKept (g g' : HostOf) (name : Key) : Type 0 where
  pub numbers : (other : Key) (r : ℕ) → other ≢ name → g'.number other r ≡ g.number other r
  pub edits : (other : Key) → other ≢ name → kept g' other ≡ filter (is_of_there g'.robots) (kept g other)

abbrev pub AreThroughAll : HostOf → HistoryOf → Type 0
AreThroughAll g h = (r : ℕ) (s : RobotOf) → slice_get g.robots r ≡ Some s → s.here ≡ true → g.number h.name r ≡ length h.deltas

abbrev pub HaveSeenAll : HostOf → HistoryOf → Type 0
HaveSeenAll g h = (r : ℕ) (s : RobotOf) → slice_get g.robots r ≡ Some s → s.here ≡ true → IsShown (addresses g.robots) h s (length h.deltas)

pub record IsSettled (g : HostOf) (h : HistoryOf) : Type 0 where
  pub through : AreThroughAll g h
  pub none_kept : kept g h.name ≡ []

-- ---- without a robot

abbrev pub without : List RobotOf → ℕ → List RobotOf
without robots r = option_map_or (λ s. slice_set robots r (dropped s)) (slice_get robots r) robots

pub record IsWithout (g : HostOf) (r : ℕ) (g' : HostOf) : Type 0 where
  pub robots : g'.robots ≡ without g.robots r
  pub numbers : (name : Key) (q : ℕ) → g'.number name q ≡ g.number name q
  pub edits : (name : Key) → kept g' name ≡ filter (is_of_there g'.robots) (kept g name)

-- what is so after robots were dropped, and nothing else was done
pub record AreFewer (g g' : HostOf) : Type 0 where
  pub robots : (r : ℕ) (t : RobotOf) → slice_get g'.robots r ≡ Some t → t.here ≡ true → slice_get g.robots r ≡ Some t
  pub addresses : addresses g'.robots ≡ addresses g.robots
  pub numbers : (name : Key) (r : ℕ) → g'.number name r ≡ g.number name r
  pub edits : (name : Key) → kept g' name ≡ filter (is_of_there g'.robots) (kept g name)

pub record AreSameWavelets (m m' : tree.BTreeMap Key Progress) : Type 0 where
  pub numbers : (name : Key) (r : ℕ) → number_in (progress_in m' name) r ≡ number_in (progress_in m name) r
  pub edits : (name : Key) → edits_in (progress_in m' name) ≡ edits_in (progress_in m name)
