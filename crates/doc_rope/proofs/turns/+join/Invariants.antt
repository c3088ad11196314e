use Rattle.std.proofs.Common.{◌+◌}
use Rattle.doc_rope.specs.Heights.{height}
use Rattle.doc_rope.proofs.turns.+join.Given as goal

abbrev pub decreases-join : goal.decreases-join
decreases-join l = height l.left + height l.right
