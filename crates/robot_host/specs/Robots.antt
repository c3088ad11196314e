-- The robots of a host as contracts see them.
--     RobotOf                a robot: its address, whether it is there, and its calls as it was added and now, or as it was dropped
--     is_here, last_of       whether a robot is there; the robot, or what it was last
--     robot_by calls s       the robot of a seat, by what robots tell of their calls
--     addresses robots       their addresses
use Rattle.std.specs.Prelude.{Bool, true, false, List, map, Option}
use Rattle.std.specs.declared.alloc.Global.{Global}
use Rattle.std.specs.declared.dyn_box.DynBox.{DynBox}
use Rattle.doc_items.specs.Maps.{Key}
use Rattle.robot_host.specs.Calls.{Call}
use Rattle.robot_host.specs.declared.seat.Seat.{Seat}
use Rattle.robot_host.specs.declared.seat.Seated.{Seated}
use Rattle.robot_host.specs.declared.seat.Seated.TheVariants.{Here, Gone}

pub record RobotOf : Type 0 where
  pub address : Key
  pub here : Bool
  pub before : Option (List Call)
  pub calls : Option (List Call)

abbrev pub is_here : {V : Type 0} → {T : V → Type 0} → Seated V T → Bool
is_here (Here b) = true
is_here (Gone s) = false

abbrev pub last_of : {V : Type 0} → {T : V → Type 0} → Seated V T → DynBox V Global T
last_of (Here b) = b
last_of (Gone s) = s.value

abbrev pub robot_by : {V : Type 0} → {T : V → Type 0} → (DynBox V Global T → Option (List Call)) → Seat V T → RobotOf
robot_by calls s = record { address = s.address; here = is_here s.robot; before = calls s.first.value; calls = calls (last_of s.robot) }

abbrev pub addresses : List RobotOf → List Key
addresses robots = map (λ s. s.address) robots
