use Rattle.std.proofs.Common.{◌≡◌, ◌≤◌, ◌++◌, ℕ, List, false, take}
use Rattle.client_session.specs.Machine.{machine_of}
use Rattle.client_terminal.specs.Going.{Origin, IsReading}
use Rattle.client_terminal.proofs.lines.feed.Given as goal

pub record IsKept (g : goal.Over) (l : goal.Live-loop-byte g) : Type 0 where
  pub goes : (o : Origin) (read : List ℕ) → IsReading g.L.Link.tells o (machine_of l.fn.client) read l.fn.line.items (g.L.Link.events l.fn.link) (g.W.Sink.written l.fn.sink)
      → IsReading g.L.Link.tells o (machine_of l.client) (read ++ take l.byte-index l.bytes) l.line.items (g.L.Link.events l.link) (g.W.Sink.written l.sink)
  pub unclosed : g.L.Link.closed l.link ≡ false
  pub link_later : g.L.Link.faults l.fn.link ≤ g.L.Link.faults l.link
  pub sink_later : g.W.Sink.faults l.fn.sink ≤ g.W.Sink.faults l.sink

abbrev pub invariant-loop-byte : goal.invariant-loop-byte
invariant-loop-byte g l = IsKept g l
