use Rattle.std.proofs.Common.{◌≡◌, [], drop}
use Rattle.serde_json.specs.View.{items_view}
use Rattle.op_json.specs.Read.{text_of, list_from}
use Rattle.op_json.proofs.change.keys_in.Given as goal

abbrev pub invariant-loop-value : goal.invariant-loop-value
invariant-loop-value l = list_from text_of [] (items_view l.list) ≡ list_from text_of l.keys.items (items_view (drop l.value-index l.list))
