use Rattle.std.proofs.Common.{◌≡◌, ◌+◌, ◌++◌, IsTrue}
use Rattle.std.specs.Vec.Iter.{into_iter_items}
use Rattle.peer_rounds.specs.Peers.{held, links}
use Rattle.peer_rounds.specs.Reached.{line_then}
use Rattle.peer_rounds.proofs.each.put_all.Given as goal

pub record IsKept (g : goal.Over) (l : goal.Live-loop-peer g) : Type 0 where
  pub back : g.N.Net.back l.net ++ links (into_iter_items l.peer-iterator) ≡ g.N.Net.back l.fn.net ++ links l.fn.peers.items
  pub line : line_then (into_iter_items l.peer-iterator) (g.N.Net.line l.net) ≡ line_then l.fn.peers.items (g.N.Net.line l.fn.net)
  pub out : g.N.Net.out l.net + held l.fn.peers.items ≡ g.N.Net.out l.fn.net + held (into_iter_items l.peer-iterator)
  pub asked : IsTrue g.N.Net.tells → g.N.Net.asked l.net ≡ g.N.Net.asked l.fn.net
  pub same : (g.N.Net.door l.net ≡ g.N.Net.door l.fn.net) × (g.N.Net.accepted l.net ≡ g.N.Net.accepted l.fn.net) × (g.N.Net.looks l.net ≡ g.N.Net.looks l.fn.net)

abbrev pub invariant-loop-peer : goal.invariant-loop-peer
invariant-loop-peer g l = IsKept g l
