use Rattle.std.proofs.Common.{◌≡◌, ◌≤◌, false, IsTrue}
use Rattle.turn_cells.specs.Cells.{loads_at}
use Rattle.shard_marks.specs.Passes.{marks_of}
use Rattle.session_hub.specs.Hubs.{AreOfHub, server_of}
use Rattle.session_steps.specs.Clients.{IsSessionOf, AreSentTo}
use Rattle.session_steps.specs.Going.{Grow, HaveLooked, GoesOn, origin_of}
use Rattle.session_link.specs.Opened.{AreUnopened}
use Rattle.session_link.proofs.serve.serve_link.Given as goal

pub record IsKept (g : goal.Over) (l : goal.Live-loop g) : Type 0 where
  pub own : AreOfHub l.hub l.passes
  pub later : Grow (marks_of l.fn.passes) (marks_of l.passes)
  pub client : IsSessionOf (server_of l.hub) l.client.session
  pub sent : AreSentTo l.hub.domain (marks_of l.passes) l.client.session l.client.sent
  pub quiet : AreUnopened l.hub.domain l.client.session l.client.opened
  pub going : GoesOn g.C.Clock g.L.Link (origin_of g.C.Clock l.fn.passes l.fn.clock) (server_of l.hub) l.passes l.link l.clock l.client.session
  pub looked : IsTrue g.L.Link.tells → HaveLooked (λ k. loads_at l.fn.passes k) (g.L.Link.events l.fn.link) (λ k. loads_at l.passes k) (g.L.Link.events l.link)
  pub unclosed : g.L.Link.closed l.fn.link ≡ false → g.L.Link.closed l.link ≡ false
  pub faults : g.L.Link.faults l.fn.link ≤ g.L.Link.faults l.link

abbrev pub invariant-loop : goal.invariant-loop
invariant-loop g l = IsKept g l
