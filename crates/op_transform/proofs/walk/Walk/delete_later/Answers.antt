use Rattle.std.proofs.Common.{refl, arith}
use Rattle.op_transform.proofs.Arms.{later_deleted, later_refused}
use Rattle.op_transform.proofs.Rooms.{after_within}
use Rattle.op_transform.proofs.walk.Walk.delete_later.Goals as goal

pub returns-then-not-branch-clause-passed : goal.returns-then-not-branch-clause-passed
returns-then-not-branch-clause-passed c = later_refused _ _ _ _ _ _ _ _ _ _ _ c.requires.same c.requires.fit.0 c.requires.fit.1 c.if-not-branch.true c.in_ok-delete.ensures

pub returns-clause-passed : goal.returns-clause-passed
returns-clause-passed c = later_deleted _ _ _ _ _ _ _ _ _ _ _ c.requires.same c.if-not-branch.false c.in_ok-delete.ensures

pub returns-clause-room : goal.returns-clause-room
returns-clause-room c =
    let room = c.requires.room.0 in
    let w = after_within _ _ _ _ _ _ _ c.args.self.now.place c.args.self.now.length c.args.y.count c.if-not-branch.false c.in_ok-delete.ensures c.requires.same room.0 in
    ((w, (omega (arith, room.1.0), omega (arith, room.1.1), omega (arith, room.1.2)), omega (arith, room.2)), refl)
