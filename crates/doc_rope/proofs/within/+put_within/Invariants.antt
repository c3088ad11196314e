use Rattle.doc_rope.specs.Heights.{height}
use Rattle.doc_rope.proofs.within.+put_within.Given as goal

abbrev pub decreases-put_within : goal.decreases-put_within
decreases-put_within l = height l.tree
