use Rattle.doc_rope.specs.Heights.{height}
use Rattle.doc_rope.proofs.ends.+take_out.Given as goal

abbrev pub decreases-take_out : goal.decreases-take_out
decreases-take_out l = height l.tree
