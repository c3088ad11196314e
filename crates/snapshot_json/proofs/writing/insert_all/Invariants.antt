use Rattle.std.proofs.Common.{◌≡◌, ◌++◌, map, length}
use Rattle.doc_op.specs.Actions.{Ins}
use Rattle.snapshot_json.proofs.writing.insert_all.Given as goal

abbrev pub invariant-loop-reader : goal.invariant-loop-reader
invariant-loop-reader l = l.out ++ map Ins l.reader ≡ map Ins l.rope

abbrev pub decreases-loop-reader : goal.decreases-loop-reader
decreases-loop-reader l = length l.reader
