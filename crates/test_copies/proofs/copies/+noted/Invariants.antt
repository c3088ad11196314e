use Rattle.std.proofs.Common.{length}
use Rattle.test_copies.proofs.copies.+noted.Given as goal

abbrev pub decreases-noted : goal.decreases-noted
decreases-noted l = length l.list.now
