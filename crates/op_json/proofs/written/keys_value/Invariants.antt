use Rattle.std.proofs.Common.{◌≡◌, take, map}
use Rattle.serde_json.specs.View.{view}
use Rattle.op_json.specs.Write.{text_data}
use Rattle.op_json.specs.Read.{text_of}
use Rattle.op_json.specs.Back.{AreReadBack}
use Rattle.op_json.proofs.written.keys_value.Given as goal

abbrev pub invariant-loop-key : goal.invariant-loop-key
invariant-loop-key l = (map view l.list.items ≡ map text_data (take l.key-index l.keys)) × AreReadBack text_of text_data (take l.key-index l.keys)
