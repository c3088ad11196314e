use Rattle.std.proofs.Common.{rules}
use Rattle.op_codec.proofs.spell.write_normal.Goals as goal

pub returns-in-Err-clause-same : goal.returns-in-Err-clause-same
returns-in-Err-clause-same c = search rules
