use Rattle.std.proofs.Common.{length}
use Rattle.test_copies.proofs.copies.+ascend_from.Given as goal

abbrev pub decreases-ascend_from : goal.decreases-ascend_from
decreases-ascend_from l = length l.list.now
