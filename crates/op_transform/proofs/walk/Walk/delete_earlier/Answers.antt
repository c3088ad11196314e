use Rattle.std.proofs.Common.{refl, arith}
use Rattle.op_transform.proofs.Arms.{earlier_deleted, earlier_refused}
use Rattle.op_transform.proofs.Rooms.{after_within}
use Rattle.op_transform.proofs.walk.Walk.delete_earlier.Goals as goal

pub returns-then-not-branch-clause-passed : goal.returns-then-not-branch-clause-passed
returns-then-not-branch-clause-passed c = earlier_refused _ _ _ _ _ _ _ _ _ _ _ c.requires.same c.requires.fit.0 c.requires.fit.1 c.if-not-branch.true c.in_ok-delete.ensures

pub returns-clause-passed : goal.returns-clause-passed
returns-clause-passed c = earlier_deleted _ _ _ _ _ _ _ _ _ _ _ c.requires.same c.if-not-branch.false c.in_ok-delete.ensures

pub returns-clause-room : goal.returns-clause-room
returns-clause-room c =
    let room = c.requires.room.0 in
    let w = after_within _ _ _ _ _ _ _ c.args.self.now.place c.args.self.now.length c.args.x.count c.if-not-branch.false c.in_ok-delete.ensures c.requires.same room.1 in
    (((omega (arith, room.0.0), omega (arith, room.0.1), omega (arith, room.0.2)), w, omega (arith, room.2)), refl)
