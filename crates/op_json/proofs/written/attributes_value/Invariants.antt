use Rattle.std.proofs.Common.{◌≡◌, ◌++◌, map}
use Rattle.std.specs.FinMap as finite
use Rattle.serde_json.specs.View.{view}
use Rattle.doc_items.specs.Maps.{pair_of}
use Rattle.op_json.specs.Write.{entry_data}
use Rattle.op_json.proofs.written.attributes_value.Given as goal

abbrev pub invariant-loop-key : goal.invariant-loop-key
invariant-loop-key l = map view l.list.items ++ map entry_data (map pair_of l.key-iterator) ≡ map entry_data (finite.entries l.attributes)
