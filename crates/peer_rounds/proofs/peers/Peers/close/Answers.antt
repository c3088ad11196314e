use Rattle.std.proofs.Common.{◌≤◌, ◌-◌, ◌^◌, min, length, subst, sym}
use Rattle.peer_rounds.specs.Peers.{links}
use Rattle.peer_rounds.specs.Reached.{HaveCome}
use Rattle.peer_rounds.proofs.Counting.{come_after, then_rises}
use Rattle.peer_rounds.proofs.peers.Peers.close.Goals as goal

pub returns-clause-come : goal.returns-clause-come
returns-clause-come g c = λ own n same reached.
    subst (λ z. HaveCome g.L.Link own n z (links c.args.self.list.items) (length c.args.self.list.items)) (sym c.put_all.ensures.line)
    (come_after own c.args.self.list.items n (g.N.Net.line c.args.net.now) same reached)

pub returns-clause-rises : goal.returns-clause-rises
returns-clause-rises g c = subst (λ z. min (g.N.Net.line c.args.net.now) (2 ^ 64 - 1) ≤ z) (sym c.put_all.ensures.line)
    (then_rises c.args.self.list.items (g.N.Net.line c.args.net.now))
