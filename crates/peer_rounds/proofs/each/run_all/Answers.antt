use Rattle.peer_rounds.proofs.Counting.{reached_ok}
use Rattle.peer_rounds.proofs.Standing.{dialled_ok}
use Rattle.peer_rounds.proofs.each.run_all.Goals as goal

pub returns-clause-dialled : goal.returns-clause-dialled
returns-clause-dialled g c = dialled_ok g.T.PeerTurns g.N.Net c.args.peers.now c.run_each.new.peers c.args.turns.now c.run_each.new.turns c.args.net.now c.run_each.new.net c.run_each.result c.run_each.ensures.run

pub returns-clause-reached : goal.returns-clause-reached
returns-clause-reached g c = reached_ok g.T.PeerTurns g.N.Net c.args.peers.now c.run_each.new.peers c.args.turns.now c.run_each.new.turns c.args.net.now c.run_each.new.net c.run_each.result c.run_each.ensures.run
