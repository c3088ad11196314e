use Rattle.op_invert.proofs.Lengths.{inverse_lengths}
use Rattle.op_invert.proofs.Undoing.{inverse_applies, inverse_structured, inverse_undoes}
use Rattle.op_invert.proofs.laws.inverse_holds.Goals as goal

pub returns : goal.returns
returns c = record {
  applies = inverse_applies;
  structured = inverse_structured;
  undoes = inverse_undoes;
  lengths = inverse_lengths;
}
