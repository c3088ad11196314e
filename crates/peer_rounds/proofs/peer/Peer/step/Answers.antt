use Rattle.peer_rounds.proofs.Rooms.{some_room}
use Rattle.peer_rounds.proofs.peer.Peer.step.Goals as goal

pub peer_step-requires : goal.peer_step-requires
peer_step-requires g c = record { out = some_room c.args.self.now.link.link (g.N.Net.out c.args.net.now) c.requires.out }
