use Rattle.std.proofs.Common.{refl, arith}
use Rattle.op_compose.proofs.Arms.{both_kept, both_refused, both_within, both_in_step}
use Rattle.op_compose.proofs.weave.Weave.keep_both.Goals as goal

pub returns-then-not-branch-clause-passed : goal.returns-then-not-branch-clause-passed
returns-then-not-branch-clause-passed c = both_refused _ _ _ _ _ _ _ _ _ c.requires.same c.requires.fit_x.0 c.if-not-branch.true c.in_ok-write_both.ensures

pub returns-clause-passed : goal.returns-clause-passed
returns-clause-passed c = both_kept _ _ _ _ _ _ _ _ _ c.requires.same c.if-not-branch.false refl c.in_ok-write_both.ensures

pub returns-clause-room : goal.returns-clause-room
returns-clause-room c = let l = both_within _ _ _ _ _ _ _ c.if-not-branch.false c.in_ok-write_both.ensures in (l.input, l.output, omega arith)

pub returns-clause-in_step : goal.returns-clause-in_step
returns-clause-in_step c = both_in_step _ _ _ _ _ _ _ _ c.requires.fit_x.0 c.if-not-branch.false refl c.in_ok-write_both.ensures c.clear.ensures
