use Rattle.std.proofs.Common.{rules}
use Rattle.op_compose.proofs.kept.write_plain.Goals as goal

pub returns : goal.returns
returns c = search rules
