use Rattle.std.proofs.Common.{◌≤◌, ◌-◌, length, take}
use Rattle.line_loop.specs.Feeding.{IsFed}
use Rattle.line_loop.proofs.feed.feed_lines.Given as goal

abbrev pub invariant-loop-from : goal.invariant-loop-from
invariant-loop-from g l = record {
  within : l.from ≤ length l.bytes;
  fed : IsFed g.M.LineMachine g.C.Clock l.fn.machine l.machine l.fn.clock l.clock (g.W.Sink.written l.fn.sink) (g.W.Sink.written l.sink) l.fn.begun.bytes.items (take l.from l.bytes) l.begun.bytes.items;
  sink_later : g.W.Sink.faults l.fn.sink ≤ g.W.Sink.faults l.sink;
  machine_later : g.M.LineMachine.faults l.fn.machine ≤ g.M.LineMachine.faults l.machine;
}

abbrev pub decreases-loop-from : goal.decreases-loop-from
decreases-loop-from g l = length l.bytes - l.from
