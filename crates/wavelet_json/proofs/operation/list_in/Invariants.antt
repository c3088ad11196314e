use Rattle.std.proofs.Common.{◌≡◌, [], drop}
use Rattle.serde_json.specs.View.{items_view}
use Rattle.op_json.specs.Read.{list_from}
use Rattle.wavelet_json.specs.Operations.{op_of}
use Rattle.wavelet_json.proofs.operation.list_in.Given as goal

abbrev pub invariant-loop-value : goal.invariant-loop-value
invariant-loop-value l = list_from op_of [] (items_view l.list) ≡ list_from op_of l.ops.items (items_view (drop l.value-index l.list))
