use Rattle.op_compose.proofs.Law.{composition_law}
use Rattle.op_compose.proofs.laws.composition_holds.Goals as goal

pub returns : goal.returns
returns c = composition_law
