use Rattle.std.proofs.Common.{◌≡◌, ◌≤◌, ◌-◌, ◌^◌, [], false}
use Rattle.client_session.specs.Machine.{machine_of}
use Rattle.client_terminal.specs.Going.{Origin, IsReading}
use Rattle.client_terminal.proofs.Ending.{IsUnderWay}
use Rattle.client_terminal.proofs.run.obey_lines.Given as goal

pub record IsKept (g : goal.Over) (l : goal.Live-loop-taken g) : Type 0 where
  pub goes : (o : Origin) → IsReading g.L.Link.tells o (machine_of l.fn.client) [] [] (g.L.Link.events l.fn.link) (g.W.Sink.written l.fn.sink)
      → IsUnderWay g.L.Link.tells o (machine_of l.client) l.line.items (g.S.Source.left l.fn.source) (g.S.Source.left l.source) (g.L.Link.events l.link) (g.W.Sink.written l.sink) l.taken
  pub unclosed : g.L.Link.closed l.link ≡ false
  pub small : l.taken ≤ 2 ^ 62
  pub source_later : g.S.Source.faults l.fn.source ≤ g.S.Source.faults l.source
  pub link_later : g.L.Link.faults l.fn.link ≤ g.L.Link.faults l.link
  pub sink_later : g.W.Sink.faults l.fn.sink ≤ g.W.Sink.faults l.sink

abbrev pub invariant-loop-taken : goal.invariant-loop-taken
invariant-loop-taken g l = IsKept g l

abbrev pub decreases-loop-taken : goal.decreases-loop-taken
decreases-loop-taken g l = 2 ^ 62 - l.taken
