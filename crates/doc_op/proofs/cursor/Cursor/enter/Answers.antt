use Rattle.std.proofs.Common.{rules}
use Rattle.doc_op.proofs.cursor.Cursor.enter.Goals as goal

pub returns-in_default-clause-touched : goal.returns-in_default-clause-touched
returns-in_default-clause-touched c = search rules

pub returns-clause-touched : goal.returns-clause-touched
returns-clause-touched c = search rules
