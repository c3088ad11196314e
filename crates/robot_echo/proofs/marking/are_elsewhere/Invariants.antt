use Rattle.std.proofs.Common.{◌≡◌, drop}
use Rattle.robot_echo.specs.Echoes.{are_elsewhere}
use Rattle.robot_echo.proofs.marking.are_elsewhere.Given as goal

abbrev pub invariant-loop-op : goal.invariant-loop-op
invariant-loop-op l = are_elsewhere (drop l.op-index l.fn.ops) ≡ are_elsewhere l.fn.ops
