use Rattle.std.proofs.Common.{arith}
use Rattle.op_compose.proofs.Arms.{inserted_kept, inserted_refused, inserted_within}
use Rattle.op_compose.proofs.weave.Weave.keep_inserted.Goals as goal

pub returns-then-not-branch-clause-passed : goal.returns-then-not-branch-clause-passed
returns-then-not-branch-clause-passed c = inserted_refused _ _ _ _ _ _ _ _ _ c.requires.same c.requires.fit.0 c.requires.fit.1 c.if-not-branch.true c.in_ok-insert_after.ensures

pub returns-clause-passed : goal.returns-clause-passed
returns-clause-passed c = inserted_kept _ _ _ _ _ _ _ _ _ c.requires.same c.if-not-branch.false c.in_ok-insert_after.ensures

pub returns-clause-room : goal.returns-clause-room
returns-clause-room c = let l = inserted_within _ _ _ _ _ _ _ _ c.requires.same c.if-not-branch.false c.in_ok-insert_after.ensures in (l.input, l.output, omega arith)
