use Rattle.std.proofs.Common.{◌≡◌, ◌≤◌, IsTrue}
use Rattle.peer_turns.specs.Calls.{refusals, gifts}
use Rattle.federation_link.proofs.Rounds.{IsTelling}
use Rattle.federation_link.proofs.greeting.tell_all.Given as goal

pub record IsKept (g : goal.Over) (l : goal.Live-loop-place g) : Type 0 where
  pub going : IsTelling g.L.Link.tells g.T.PeerTurns.tells l.domain l.place (g.L.Link.events l.fn.link) (g.L.Link.events l.link) (g.T.PeerTurns.calls l.fn.turns) (g.T.PeerTurns.calls l.turns)
  pub spent : IsTrue g.T.PeerTurns.tells → refusals (g.T.PeerTurns.calls l.turns) ≡ refusals (g.T.PeerTurns.calls l.fn.turns)
  pub gifts : IsTrue g.T.PeerTurns.tells → gifts (g.T.PeerTurns.calls l.turns) ≡ gifts (g.T.PeerTurns.calls l.fn.turns)
  pub faults : g.L.Link.faults l.fn.link ≤ g.L.Link.faults l.link
  pub closed : g.L.Link.closed l.link ≡ g.L.Link.closed l.fn.link

abbrev pub invariant-loop-place : goal.invariant-loop-place
invariant-loop-place g l = IsKept g l
