-- The laws of hosts: when a turn may be taken.
--     NewMayTurn             a new host may take a turn over any history
--     LongerMayTurn          a host that may take a turn over a history may over each longer one
--     OthersMayTurn          a turn over one wavelet's history leaves that of another wavelet as it is
--     RefusedMayTurn         a host may take a turn after a robot was dropped as before
use Rattle.std.specs.Prelude.{◌≡◌, ◌≢◌, ℕ, List, ◌++◌}
use Rattle.wavelet_op.specs.Deltas.{DeltaOf}
use Rattle.delta_history.specs.Histories.{HistoryOf}
use Rattle.robot_host.specs.declared.edit.RobotEdit.{RobotEdit}
use Rattle.robot_host.specs.Hosts.{HostOf, IsNew, MayTurn, HasTurned, AreOthersKept, IsWithout}

abbrev pub NewMayTurn : Type 0
NewMayTurn = (g : HostOf) (h : HistoryOf) → IsNew g → MayTurn g h

abbrev pub LongerMayTurn : Type 0
LongerMayTurn = (g : HostOf) (h k : HistoryOf) (more : List DeltaOf) → k.name ≡ h.name → k.deltas ≡ h.deltas ++ more
    → MayTurn g h → MayTurn g k

abbrev pub OthersMayTurn : Type 0
OthersMayTurn = (g g' : HostOf) (h k : HistoryOf) (all : List RobotEdit) → HasTurned g h g' all → AreOthersKept g g' h.name
    → k.name ≢ h.name → MayTurn g k → MayTurn g' k

abbrev pub RefusedMayTurn : Type 0
RefusedMayTurn = (g g' : HostOf) (r : ℕ) (h : HistoryOf) → IsWithout g r g' → MayTurn g h → MayTurn g' h
