use Rattle.std.proofs.Common.{◌≡◌, ◌++◌, map, take}
use Rattle.doc_items.specs.Changes.{none_running}
use Rattle.doc_op.specs.Actions.{insertion}
use Rattle.op_build.specs.Plans.{retained}
use Rattle.op_build.proofs.contents.inserted_contents.Given as goal

abbrev pub invariant-loop-content : goal.invariant-loop-content
invariant-loop-content l = l.out ≡ retained l.fn.place ++ map (insertion none_running) (take l.content-index l.contents)
