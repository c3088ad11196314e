use Rattle.std.proofs.Common.{rules}
use Rattle.session_core.proofs.answers.snapshot_of.Goals as goal

pub returns : goal.returns
returns c = search rules
