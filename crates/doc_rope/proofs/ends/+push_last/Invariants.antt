use Rattle.doc_rope.specs.Heights.{height}
use Rattle.doc_rope.proofs.ends.+push_last.Given as goal

abbrev pub decreases-push_last : goal.decreases-push_last
decreases-push_last l = height l.tree
