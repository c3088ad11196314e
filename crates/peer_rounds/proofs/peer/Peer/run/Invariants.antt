use Rattle.std.proofs.Common.{◌≡◌, ◌≤◌, ◌+◌, ◌-◌, ◌^◌, min, IsTrue, List}
use mathlib.Core.List.{IsPrefix}
use Rattle.peer_turns.specs.Calls.{refusals}
use Rattle.federation_link.specs.Dials.{count_in}
use Rattle.federation_link.specs.declared.stepped.Stepped.{Stepped}
use Rattle.peer_rounds.specs.Peers.{name_of}
use Rattle.peer_rounds.specs.Turns.{Runs}
use Rattle.peer_rounds.proofs.peer.Peer.run.Given as goal

pub record IsKept (g : goal.Over) (l : goal.Live-loop g) : Type 0 where
  pub ran : (ss : List Stepped) × Runs g.T.PeerTurns g.N.Net ss l.fn.self.link l.self.link l.fn.turns l.turns l.fn.net l.net
  pub rises : min (g.N.Net.line l.fn.net) (2 ^ 64 - 1) ≤ g.N.Net.line l.net
  pub back : IsPrefix (g.N.Net.back l.fn.net) (g.N.Net.back l.net)
  pub out : g.N.Net.out l.net + count_in l.fn.self.link.link ≡ g.N.Net.out l.fn.net + count_in l.self.link.link
  pub same : (g.N.Net.door l.net ≡ g.N.Net.door l.fn.net) × (g.N.Net.accepted l.net ≡ g.N.Net.accepted l.fn.net) × (g.N.Net.looks l.net ≡ g.N.Net.looks l.fn.net)
  pub spent : IsTrue g.T.PeerTurns.tells → refusals (g.T.PeerTurns.calls l.turns) ≡ refusals (g.T.PeerTurns.calls l.fn.turns)
  pub named : name_of l.self.link ≡ name_of l.fn.self.link

abbrev pub invariant-loop : goal.invariant-loop
invariant-loop g l = IsKept g l
