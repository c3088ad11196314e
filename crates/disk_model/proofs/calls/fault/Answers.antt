use Rattle.std.proofs.Common.{rules}
use Rattle.disk_model.proofs.calls.fault.Goals as goal

pub returns-clause-rose : goal.returns-clause-rose
returns-clause-rose c = search rules
