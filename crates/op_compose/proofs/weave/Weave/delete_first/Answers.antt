use Rattle.std.proofs.Common.{◌≡◌, ◌+◌, refl, arith}
use Rattle.op_compose.proofs.Fronts.{passes}
use Rattle.op_compose.proofs.Rows.{deleted_first}
use Rattle.op_compose.proofs.Rooms.{deleted_longer}
use Rattle.op_compose.proofs.weave.Weave.delete_first.Goals as goal

pub returns-clause-passed : goal.returns-clause-passed
returns-clause-passed c =
    let same : c.args.self.now.place ≡ c.args.self.now.place + 0 = omega arith in
    passes _ _ _ _ _ _ _ 0 c.in_ok-delete.ensures.added same (deleted_first _ _)

pub returns-clause-room : goal.returns-clause-room
returns-clause-room c = let l = deleted_longer _ _ _ _ _ c.in_ok-delete.ensures.added refl in (l.input, l.output, omega arith)
