use Rattle.std.proofs.Common.{length}
use Rattle.test_copies.proofs.copies.+held.Given as goal

abbrev pub decreases-held : goal.decreases-held
decreases-held l = length l.list.now
