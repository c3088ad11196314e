use Rattle.std.proofs.Common.{◌≡◌, false, ◌≤◌, ◌-◌, ◌^◌}
use Rattle.wave_terminal.specs.Runs.{course_of}
use Rattle.wave_terminal.proofs.Obeying.{IsUnderWay}
use Rattle.wave_terminal.proofs.run.run.Given as goal

abbrev pub invariant-loop-taken : goal.invariant-loop-taken
invariant-loop-taken g l = record {
  under_way : IsUnderWay g.M.CommandMachine.machine (g.M.CommandMachine.state l.fn.machine) (course_of (g.M.CommandMachine.state l.machine) l.begun) (g.S.Source.left l.fn.source) (g.S.Source.left l.source) (g.W.Sink.written l.fn.sink) (g.W.Sink.written l.sink) l.taken;
  awake : l.begun.quit ≡ false;
  small : l.taken ≤ 2 ^ 62;
  source_later : g.S.Source.faults l.fn.source ≤ g.S.Source.faults l.source;
  sink_later : g.W.Sink.faults l.fn.sink ≤ g.W.Sink.faults l.sink;
}

abbrev pub decreases-loop-taken : goal.decreases-loop-taken
decreases-loop-taken g l = 2 ^ 62 - l.taken
