use Rattle.std.proofs.Common.{◌≡◌, drop, None}
use Rattle.std.specs.Option.{option_copied}
use Rattle.std.specs.FinMap.{empty}
use Rattle.serde_json.specs.View.{items_view}
use Rattle.op_json.specs.Read.{attributes_from}
use Rattle.op_json.proofs.attributes.attributes_in.Given as goal

abbrev pub invariant-loop-value : goal.invariant-loop-value
invariant-loop-value l = attributes_from empty None (items_view l.list) ≡ attributes_from l.attributes (option_copied l.last) (items_view (drop l.value-index l.list))
