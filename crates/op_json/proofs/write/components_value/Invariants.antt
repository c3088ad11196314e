use Rattle.std.proofs.Common.{◌≡◌, take, map}
use Rattle.serde_json.specs.View.{view}
use Rattle.op_json.specs.Write.{component_data}
use Rattle.op_json.specs.Read.{component_of}
use Rattle.op_json.specs.Back.{AreReadBack}
use Rattle.op_json.proofs.write.components_value.Given as goal

abbrev pub invariant-loop-component : goal.invariant-loop-component
invariant-loop-component l = (map view l.list.items ≡ map component_data (take l.component-index l.components)) × AreReadBack component_of component_data (take l.component-index l.components)
