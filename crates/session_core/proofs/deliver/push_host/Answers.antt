use Rattle.std.proofs.Common.{rules}
use Rattle.session_core.proofs.deliver.push_host.Goals as goal

pub returns-in_ok-copy-in-None-2-clause-told : goal.returns-in_ok-copy-in-None-2-clause-told
returns-in_ok-copy-in-None-2-clause-told c = search rules
