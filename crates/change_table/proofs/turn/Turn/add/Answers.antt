use Rattle.std.proofs.Common.{rules}
use Rattle.change_table.proofs.turn.Turn.add.Goals as goal

pub returns-clause-ended : goal.returns-clause-ended
returns-clause-ended c = search rules

pub returns-clause-changed : goal.returns-clause-changed
returns-clause-changed c = search rules
