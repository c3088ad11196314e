use Rattle.op_transform.proofs.Arms.{both_kept, both_refused}
use Rattle.op_transform.proofs.Rooms.{both_kept_within}
use Rattle.op_transform.proofs.Touches.{both_shown}
use Rattle.op_transform.proofs.walk.Walk.keep_both.Goals as goal

pub returns-then-not-branch-clause-passed : goal.returns-then-not-branch-clause-passed
returns-then-not-branch-clause-passed c = both_refused c.args.x c.args.y _ _ _ _ _ c.requires.pair.same c.requires.pair.fit_x.0 c.if-not-branch.true c.in_ok-write_touched.ensures

pub returns-clause-passed : goal.returns-clause-passed
returns-clause-passed c = both_kept c.args.x c.args.y _ _ _ _ _ c.requires.pair.same c.if-not-branch.false c.in_ok-write_touched.ensures

pub returns-clause-room : goal.returns-clause-room
returns-clause-room c = both_kept_within c.args.x c.args.y _ _ _ _ _ c.if-not-branch.false c.in_ok-write_touched.ensures c.requires.pair.same c.requires.pair.room.0

pub returns-clause-in_step : goal.returns-clause-in_step
returns-clause-in_step c = both_shown c.args.x c.args.y _ _ _ _ _ _ c.if-not-branch.false c.in_ok-write_touched.ensures c.requires.pair.fit_x.0 c.requires.pair.fit_y.0 c.clear.ensures
