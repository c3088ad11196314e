use Rattle.std.proofs.Common.{◌≡◌, ◌++◌, ℕ, Bool, List, drop}
use Rattle.peer_rounds.specs.Peers.{held, names, names_by}
use Rattle.peer_rounds.specs.Stands.{AreReady}
use Rattle.peer_rounds.proofs.peers.Peers.new.Given as goal

pub record AreMade (g : goal.Over) (l : goal.Live-loop-pair g) : Type 0 where
  pub named : names l.peers.list.items ++ names_by l.own (drop l.pair-index l.pairs) ≡ names_by l.own l.pairs
  pub unheld : held l.peers.list.items ≡ 0
  pub ready : (tells : Bool) → (asked : List (List ℕ)) → AreReady tells asked l.peers.list.items

abbrev pub invariant-loop-pair : goal.invariant-loop-pair
invariant-loop-pair g l = AreMade g l
