use Rattle.std.proofs.Common.{arith}
use Rattle.std.proofs.lemmas.Grind.{common_steps}
use Rattle.session_core.proofs.deliver.any_of.Goals as goal

pub returns-then-is_of_domain : goal.returns-then-is_of_domain
returns-then-is_of_domain c = grind (arith, common_steps)
