use Rattle.std.proofs.Common.{rules}
use Rattle.federation_link.proofs.taking.take.Goals as goal

pub returns-in-Dropped-clause-given : goal.returns-in-Dropped-clause-given
returns-in-Dropped-clause-given g c = search rules
