use Rattle.peer_rounds.proofs.Returns.{returned_ok}
use Rattle.peer_rounds.proofs.Standing.{ready_ok}
use Rattle.peer_rounds.proofs.each.turn_all.Goals as goal

pub returns-clause-ready : goal.returns-clause-ready
returns-clause-ready g c = ready_ok g.T.PeerTurns g.N.Net c.args.peers.now c.turn_each.new.peers c.args.turns.now c.turn_each.new.turns c.args.net.now c.turn_each.new.net c.turn_each.result c.turn_each.ensures.turned

pub returns-clause-returned : goal.returns-clause-returned
returns-clause-returned g c = returned_ok g.T.PeerTurns g.N.Net c.args.peers.now c.turn_each.new.peers c.args.turns.now c.turn_each.new.turns c.args.net.now c.turn_each.new.net c.turn_each.result c.turn_each.ensures.turned
