use Rattle.std.proofs.Common.{◌≤◌, ◌-◌, length, take}
use Rattle.line_loop.specs.Steps.{IsTaken}
use Rattle.line_loop.proofs.take.take.Given as goal

abbrev pub invariant-loop-len : goal.invariant-loop-len
invariant-loop-len g l = record {
  within : l.from ≤ length l.bytes;
  taken : IsTaken g.M.LineMachine g.C.Clock l.fn.machine l.machine l.fn.clock l.clock l.fn.out.items l.out.items l.fn.begun.bytes.items (take l.from l.bytes) l.begun.bytes.items;
  later : g.M.LineMachine.faults l.fn.machine ≤ g.M.LineMachine.faults l.machine;
}

abbrev pub decreases-loop-len : goal.decreases-loop-len
decreases-loop-len g l = length l.bytes - l.from
