use Rattle.std.proofs.Common.{◌≡◌, ◌≤◌, ◌+◌, ◌<◌, ℕ, IsTrue}
use Rattle.turn_cells.specs.Cells.{loads_at}
use Rattle.shard_marks.specs.Passes.{marks_of}
use Rattle.session_hub.specs.Hubs.{AreOfHub, server_of}
use Rattle.session_steps.specs.Clients.{IsSessionOf, AreSentTo, AreSentAll}
use Rattle.session_steps.specs.Going.{Grow, Origin, GoesOn}
use Rattle.session_steps.specs.Served.{poll_count}
use Rattle.session_link.specs.Opened.{AreUnopened}
use Rattle.session_link.proofs.news.catch_up_all.Given as goal

pub record IsKept (g : goal.Over) (l : goal.Live-loop-shard g) : Type 0 where
  pub own : AreOfHub l.hub l.passes
  pub later : Grow (marks_of l.fn.passes) (marks_of l.passes)
  pub looked : (k : ℕ) → k < l.shard → loads_at l.fn.passes k + 1 ≤ loads_at l.passes k
  pub loads : (k : ℕ) → loads_at l.fn.passes k ≤ loads_at l.passes k
  pub client : IsSessionOf (server_of l.hub) l.client.session
  pub sent : AreSentTo l.hub.domain (marks_of l.passes) l.client.session l.client.sent
  pub quiet : AreUnopened l.hub.domain l.client.session l.client.opened
  pub all : AreSentAll (marks_of l.passes) l.shard l.client.sent
  pub going : (o : Origin) → GoesOn g.C.Clock g.L.Link o (server_of l.hub) l.fn.passes l.fn.link l.clock l.fn.client.session
      → GoesOn g.C.Clock g.L.Link o (server_of l.hub) l.passes l.link l.clock l.client.session
  pub polls : IsTrue g.L.Link.tells → poll_count (g.L.Link.events l.link) ≡ poll_count (g.L.Link.events l.fn.link)
  pub unclosed : g.L.Link.closed l.link ≡ g.L.Link.closed l.fn.link
  pub faults : g.L.Link.faults l.fn.link ≤ g.L.Link.faults l.link

abbrev pub invariant-loop-shard : goal.invariant-loop-shard
invariant-loop-shard g l = IsKept g l
