use Rattle.std.proofs.Common.{length}
use Rattle.peer_rounds.proofs.each.+due.Given as goal

abbrev pub decreases-due : goal.decreases-due
decreases-due g l = length l.peers.now
