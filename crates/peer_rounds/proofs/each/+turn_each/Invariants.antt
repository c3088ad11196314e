use Rattle.std.proofs.Common.{length}
use Rattle.peer_rounds.proofs.each.+turn_each.Given as goal

abbrev pub decreases-turn_each : goal.decreases-turn_each
decreases-turn_each g l = length l.peers.now
