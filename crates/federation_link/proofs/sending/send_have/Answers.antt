use Rattle.std.proofs.Common.{rules}
use Rattle.federation_link.proofs.sending.send_have.Goals as goal

pub returns-clause-sent : goal.returns-clause-sent
returns-clause-sent g c = search rules
