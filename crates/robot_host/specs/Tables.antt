-- A turn over one wavelet, as the seats and the progress before and after it.
--     robots_by calls seats               the robots of seats
--     TurnsOne calls h r ss p ss' p'      the robot r had its turn
--     TurnsAll calls h ss p ss' p'        all robots had theirs
--     AnswersAll calls h ss p ss' p' given      and these are the edits that are given
use Rattle.std.specs.Prelude.{ℕ, List, map, Option}
use Rattle.std.specs.declared.alloc.Global.{Global}
use Rattle.std.specs.declared.dyn_box.DynBox.{DynBox}
use Rattle.delta_history.specs.Histories.{HistoryOf}
use Rattle.robot_host.specs.declared.edit.RobotEdit.{RobotEdit}
use Rattle.robot_host.specs.declared.progress.Progress.{Progress}
use Rattle.robot_host.specs.declared.seat.Seat.{Seat}
use Rattle.robot_host.specs.Calls.{Call}
use Rattle.robot_host.specs.Robots.{RobotOf, robot_by, addresses}
use Rattle.robot_host.specs.Turns.{IsOneTurn, HaveTurned, HaveAnswered}

abbrev pub robots_by : {V : Type 0} → {T : V → Type 0} → (DynBox V Global T → Option (List Call)) → List (Seat V T) → List RobotOf
robots_by calls seats = map (robot_by calls) seats

abbrev pub TurnsOne : {V : Type 0} → {T : V → Type 0} → (DynBox V Global T → Option (List Call)) → HistoryOf → ℕ
    → List (Seat V T) → Progress
    → List (Seat V T) → Progress → Type 0
TurnsOne calls h r ss p ss' p' =
    IsOneTurn (addresses (robots_by calls ss)) h r (robots_by calls ss) (robots_by calls ss') p.counts.items p'.counts.items p.edits.items
    p'.edits.items

abbrev pub TurnsAll : {V : Type 0} → {T : V → Type 0} → (DynBox V Global T → Option (List Call)) → HistoryOf → List (Seat V T) → Progress
    → List (Seat V T) → Progress → Type 0
TurnsAll calls h ss p ss' p' =
    HaveTurned (addresses (robots_by calls ss)) h (robots_by calls ss) (robots_by calls ss') p.counts.items p'.counts.items p.edits.items
    p'.edits.items

abbrev pub AnswersAll : {V : Type 0} → {T : V → Type 0} → (DynBox V Global T → Option (List Call)) → HistoryOf → List (Seat V T) → Progress
    → List (Seat V T) → Progress → List RobotEdit → Type 0
AnswersAll calls h ss p ss' p' given =
    HaveAnswered (addresses (robots_by calls ss)) h (robots_by calls ss) (robots_by calls ss') p.counts.items p'.counts.items p.edits.items
    given
