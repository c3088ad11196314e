use Rattle.std.proofs.Common.{◌≤◌, ◌-◌, ◌^◌}
use Rattle.line_loop.specs.Run.{IsUnderWay}
use Rattle.line_loop.proofs.run.run_lines.Given as goal

abbrev pub invariant-loop-taken : goal.invariant-loop-taken
invariant-loop-taken g l = record {
  served : IsUnderWay g.M.LineMachine g.C.Clock l.fn.machine l.machine l.fn.clock l.clock (g.S.Source.left l.fn.source) (g.S.Source.left l.source) (g.W.Sink.written l.fn.sink) (g.W.Sink.written l.sink) l.begun.bytes.items l.taken;
  small : l.taken ≤ 2 ^ 62;
  source_later : g.S.Source.faults l.fn.source ≤ g.S.Source.faults l.source;
  sink_later : g.W.Sink.faults l.fn.sink ≤ g.W.Sink.faults l.sink;
  machine_later : g.M.LineMachine.faults l.fn.machine ≤ g.M.LineMachine.faults l.machine;
}

abbrev pub decreases-loop-taken : goal.decreases-loop-taken
decreases-loop-taken g l = 2 ^ 62 - l.taken
