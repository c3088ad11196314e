use Rattle.std.proofs.Common.{◌≡◌, ◌≤◌, ◌++◌, drop, IsTrue}
use Rattle.client_terminal.specs.Runs.{sends}
use Rattle.client_terminal.proofs.sending.send_all.Given as goal

pub record IsKept (g : goal.Over) (l : goal.Live-loop-message g) : Type 0 where
  pub went : IsTrue g.L.Link.tells → g.L.Link.events l.link ++ sends (drop l.message-index l.messages) ≡ g.L.Link.events l.fn.link ++ sends l.messages
  pub closed : g.L.Link.closed l.link ≡ g.L.Link.closed l.fn.link
  pub faults : g.L.Link.faults l.fn.link ≤ g.L.Link.faults l.link

abbrev pub invariant-loop-message : goal.invariant-loop-message
invariant-loop-message g l = IsKept g l
