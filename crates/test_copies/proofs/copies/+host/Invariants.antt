use Rattle.std.proofs.Common.{length}
use Rattle.test_copies.proofs.copies.+host.Given as goal

abbrev pub decreases-host : goal.decreases-host
decreases-host l = length l.list.now
