use Rattle.std.proofs.Common.{rules}
use Rattle.doc_op.proofs.shown_changes.Shown.turn_from.Goals as goal

pub returns-in-Listed : goal.returns-in-Listed
returns-in-Listed c = search rules
