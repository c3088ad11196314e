use Rattle.std.proofs.Common.{◌≡◌, ◌≤◌, ℕ, List, false}
use Rattle.client_session.specs.Machine.{machine_of}
use Rattle.client_terminal.specs.Going.{Origin, IsOn}
use Rattle.client_terminal.specs.Runs.{looked, max_looks}
use Rattle.client_terminal.proofs.looking.look_on.Given as goal

pub record IsKept (g : goal.Over) (l : goal.Live-loop-count g) : Type 0 where
  pub goes : (o : Origin) (ls : List (List ℕ)) → IsOn g.L.Link.tells o (looked 0) (machine_of l.fn.client) ls (g.L.Link.events l.fn.link) (g.W.Sink.written l.fn.sink)
      → IsOn g.L.Link.tells o (looked l._count) (machine_of l.client) ls (g.L.Link.events l.link) (g.W.Sink.written l.sink)
  pub unclosed : g.L.Link.closed l.link ≡ false
  pub small : l._count ≤ max_looks
  pub link_later : g.L.Link.faults l.fn.link ≤ g.L.Link.faults l.link
  pub sink_later : g.W.Sink.faults l.fn.sink ≤ g.W.Sink.faults l.sink

abbrev pub invariant-loop-count : goal.invariant-loop-count
invariant-loop-count g l = IsKept g l
