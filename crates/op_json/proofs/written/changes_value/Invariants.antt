use Rattle.std.proofs.Common.{◌≡◌, take, map}
use Rattle.serde_json.specs.View.{view}
use Rattle.op_json.specs.Write.{change_data}
use Rattle.op_json.specs.Read.{change_of}
use Rattle.op_json.specs.Back.{AreReadBack}
use Rattle.op_json.proofs.written.changes_value.Given as goal

abbrev pub invariant-loop-change : goal.invariant-loop-change
invariant-loop-change l = (map view l.list.items ≡ map change_data (take l.change-index l.changes)) × AreReadBack change_of change_data (take l.change-index l.changes)
