use Rattle.std.proofs.Common.{refl, arith}
use Rattle.op_compose.proofs.Fronts.{passes_second}
use Rattle.op_compose.proofs.Rows.{inserted_second}
use Rattle.op_compose.proofs.Rooms.{inserted_longer}
use Rattle.op_compose.proofs.weave.Weave.insert_second.Goals as goal

pub returns-clause-passed : goal.returns-clause-passed
returns-clause-passed c = passes_second _ _ _ _ _ _ c.in_ok-insert.ensures.added refl (inserted_second _ _)

pub returns-clause-room : goal.returns-clause-room
returns-clause-room c = let l = inserted_longer _ _ _ _ _ c.in_ok-insert.ensures.added refl in (l.input, l.output, omega arith)
