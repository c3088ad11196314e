use Rattle.doc_items.proofs.ChangeSets.{FitBelow}
use Rattle.doc_items.proofs.change.Changes.agrees.Given as goal

abbrev pub invariant-loop-change : goal.invariant-loop-change
invariant-loop-change l = FitBelow l.change-index l.change-items l.fn.map
