use Rattle.std.proofs.Common.{rules}
use Rattle.disk_model.proofs.steps.write.Goals as goal

pub returns-in-Ok-clause-file : goal.returns-in-Ok-clause-file
returns-in-Ok-clause-file c = search rules
