use Rattle.std.proofs.Common.{drop}
use Rattle.change_table.specs.Keys.{PassBut}
use Rattle.change_table.proofs.joint.Joint.passes.Given as goal

abbrev pub invariant-loop-key : goal.invariant-loop-key
invariant-loop-key l = PassBut (drop l.key-index l.keys) l.test l.self.first.now l.self.second.now
