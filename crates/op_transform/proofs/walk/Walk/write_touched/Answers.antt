use Rattle.std.proofs.Common.{rules}
use Rattle.op_transform.proofs.walk.Walk.write_touched.Goals as goal

pub returns : goal.returns
returns c = search rules
