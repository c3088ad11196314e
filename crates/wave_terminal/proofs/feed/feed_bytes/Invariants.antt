use Rattle.std.proofs.Common.{◌≤◌, drop}
use Rattle.wave_terminal.specs.Runs.{course_of}
use Rattle.wave_terminal.proofs.Feeding.{IsFeeding}
use Rattle.wave_terminal.proofs.feed.feed_bytes.Given as goal

abbrev pub invariant-loop-byte : goal.invariant-loop-byte
invariant-loop-byte g l = record {
  feeding : IsFeeding g.M.CommandMachine.machine (course_of (g.M.CommandMachine.state l.fn.machine) l.fn.begun) (course_of (g.M.CommandMachine.state l.machine) l.begun) (g.W.Sink.written l.fn.sink) (g.W.Sink.written l.sink) l.out.items (drop l.byte-index l.bytes) l.bytes;
  later : g.W.Sink.faults l.fn.sink ≤ g.W.Sink.faults l.sink;
}
