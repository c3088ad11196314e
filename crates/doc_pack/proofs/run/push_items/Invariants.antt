use Rattle.std.proofs.Common.{◌≡◌, ◌++◌, length}
use Rattle.doc_pack.specs.Packed.{all_items}
use Rattle.doc_pack.proofs.run.push_items.Given as goal

abbrev pub invariant-loop-rest : goal.invariant-loop-rest
invariant-loop-rest l = all_items l.runs.items ++ l.rest ≡ all_items l.fn.runs.items ++ l.fn.items

abbrev pub decreases-loop-rest : goal.decreases-loop-rest
decreases-loop-rest l = length l.rest
