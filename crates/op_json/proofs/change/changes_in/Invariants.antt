use Rattle.std.proofs.Common.{◌≡◌, [], drop}
use Rattle.serde_json.specs.View.{items_view}
use Rattle.op_json.specs.Read.{change_of, list_from}
use Rattle.op_json.proofs.change.changes_in.Given as goal

abbrev pub invariant-loop-value : goal.invariant-loop-value
invariant-loop-value l = list_from change_of [] (items_view l.list) ≡ list_from change_of l.changes.items (items_view (drop l.value-index l.list))
