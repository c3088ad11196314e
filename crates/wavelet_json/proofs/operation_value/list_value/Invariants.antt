use Rattle.std.proofs.Common.{◌≡◌, take, map}
use Rattle.serde_json.specs.View.{view}
use Rattle.op_json.specs.Back.{AreReadBack}
use Rattle.wavelet_json.specs.Operations.{op_of, op_data}
use Rattle.wavelet_json.proofs.operation_value.list_value.Given as goal

abbrev pub invariant-loop-op : goal.invariant-loop-op
invariant-loop-op l = (map view l.list.items ≡ map op_data (take l.op-index l.ops)) × AreReadBack op_of op_data (take l.op-index l.ops)
