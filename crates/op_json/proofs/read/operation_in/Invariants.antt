use Rattle.std.proofs.Common.{◌≡◌, [], drop}
use Rattle.serde_json.specs.View.{items_view}
use Rattle.op_json.specs.Read.{operation_from}
use Rattle.op_json.proofs.read.operation_in.Given as goal

abbrev pub invariant-loop-index : goal.invariant-loop-index
invariant-loop-index l = operation_from 0 [] (items_view l.list) ≡ operation_from l.index l.builder (items_view (drop l.index l.list))
