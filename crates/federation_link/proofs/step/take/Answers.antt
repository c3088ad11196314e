use Rattle.std.proofs.Common.{rules}
use Rattle.federation_link.proofs.step.take.Goals as goal

pub returns-in-Err-clause-holding : goal.returns-in-Err-clause-holding
returns-in-Err-clause-holding g c = search rules
