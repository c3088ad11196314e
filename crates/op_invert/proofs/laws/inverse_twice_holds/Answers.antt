use Rattle.op_invert.proofs.Undoing.{inverse_twice, twice_same, twice_normal}
use Rattle.op_invert.proofs.laws.inverse_twice_holds.Goals as goal

pub returns : goal.returns
returns c = record {
  twice = inverse_twice;
  same = twice_same;
  normal = twice_normal;
}
